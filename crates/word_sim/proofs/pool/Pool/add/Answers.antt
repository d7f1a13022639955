use Rattle.std.proofs.Common.{◌≡◌, ◌∙◌, ◌++◌, ◌∷◌, List, Bool, [], ap, length, sym}
use native.Mathlib.Omega.{arith}
use Rattle.std.proofs.lemmas.List.{append_assoc}
use Rattle.word_sim.specs.Patterns.{Patterns}
use Rattle.word_sim.specs.Storage.{drawn_patterns}
use Rattle.word_sim.proofs.PoolLemmas.{last-block, added-next, added-size, added-clear}
use Rattle.word_sim.proofs.pool.Pool.add.Goals as goal

pub set_bits-requires-clause-room : goal.set_bits-requires-clause-room
set_bits-requires-clause-room c =
    let i = c.self.inside in
    let fits : length c.args.input.now ≡ i.inputs = c.requires ∙ sym (ap (λ (p : Patterns). p.inputs) c.self.view_is) in
    last-block i.inputs i.added_count c.args.input.now i.added.items _ [] fits c.self.invariant.1 c.self.invariant.5 c.in_ok-make_room.ensures.ok

pub invariant_of-self-2 : goal.invariant_of-self-2
invariant_of-self-2 c =
    let i = c.self.inside in
    let fits : length c.args.input.now ≡ i.inputs = c.requires ∙ sym (ap (λ (p : Patterns). p.inputs) c.self.view_is) in
    let inv = c.self.invariant in (
      inv.0,
      added-size i.inputs i.added_count c.args.input.now i.added.items _ _ fits inv.1 inv.5 c.in_ok-make_room.ensures.ok c.set_bits.ensures,
      inv.2,
      inv.3,
      omega (arith, inv.4, c.if-self.false),
      added-clear i.inputs i.added_count c.args.input.now i.added.items _ _ fits inv.1 inv.5 c.in_ok-make_room.ensures.ok c.set_bits.ensures,
    )

pub returns-clause-ok : goal.returns-clause-ok
returns-clause-ok c =
    let i = c.self.inside in
    let fits : length c.args.input.now ≡ i.inputs = c.requires ∙ sym (ap (λ (p : Patterns). p.inputs) c.self.view_is) in
    let next = added-next i.inputs i.added_count c.args.input.now i.added.items _ _ fits c.self.invariant.1 c.self.invariant.5 c.in_ok-make_room.ensures.ok c.set_bits.ensures in
    let before = drawn_patterns i.inputs i.drawn_words i.drawn.items in
    ap (λ (ps : List (List Bool)). record { inputs = i.inputs; patterns = before ++ ps }) next
    ∙ ap (λ (ps : List (List Bool)). record { inputs = i.inputs; patterns = ps }) (sym (append_assoc before _ (c.args.input.now ∷ [])))
    ∙ ap (λ (p : Patterns). record { inputs = p.inputs; patterns = p.patterns ++ c.args.input.now ∷ [] }) c.self.view_is
