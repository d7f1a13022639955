use Rattle.std.proofs.Common.{◌<◌, List, ℕ, Ok, Err, subst, sym, map, arith}
use Rattle.std.specs.Prelude.{Result, OnOk, OnErr}
use Rattle.std.specs.List.{All}
use Rattle.flat_base.specs.Codes.{lit_at, IsCode}
use Rattle.watch_lists.specs.Step.{IsAdded, IsSame}
use Rattle.watch_lists.specs.Trail.{TrailState, IsQuiet, up_to}
use Rattle.watch_lists.specs.declared.engine.Engine.{Engine}
use Rattle.watch_lists.proofs.PutsLemmas.{all-are, settled-all, whole-added, whole-same}
use Rattle.watch_lists.proofs.ReadLemmas.{code-truth}
use Rattle.watch_lists.proofs.trail.Trail.add_codes.Goals as goal

pub add-requires-clause-within : goal.add-requires-clause-within
add-requires-clause-within c = λ l h.
    code-truth c.self.invariant l (all-are c.self.inside.numbers c.args.codes.now (subst (λ (t : TrailState). All (IsCode t.nodes) c.args.codes.now) (sym c.self.view_is) c.requires.codes) l h)

pub add-requires-clause-settled : goal.add-requires-clause-settled
add-requires-clause-settled c =
    settled-all c.self.invariant c.args.codes.now (all-are c.self.inside.numbers c.args.codes.now (subst (λ (t : TrailState). All (IsCode t.nodes) c.args.codes.now) (sym c.self.view_is) c.requires.codes))
    (subst (λ (t : TrailState). (level : ℕ) → level < t.last → IsQuiet (up_to level t.puts) (map (lit_at t.nodes) c.args.codes.now)) (sym c.self.view_is) c.requires.quiet)

-- by what the engine answered
answered : {T E : Type 0} (r : Result T E) (P : Type 0) (old new : Engine) (codes : List ℕ) → OnOk r (IsAdded old codes new) → OnErr r (IsSame old new)
    → (IsAdded old codes new → P) → (IsSame old new → P) → P
answered (Ok x) P old new codes e f g h = g e
answered (Err x) P old new codes e f g h = h f

pub invariant_of-self : goal.invariant_of-self
invariant_of-self c =
    answered c.add.result _ c.self.inside.engine c.add.new.self c.args.codes.now c.add.ensures.ok c.add.ensures.err
    (λ added. whole-added c.self.invariant c.add.new.self c.args.codes.now c.add.ensures.engine added
    (all-are c.self.inside.numbers c.args.codes.now (subst (λ (t : TrailState). All (IsCode t.nodes) c.args.codes.now) (sym c.self.view_is) c.requires.codes)))
    (λ same. whole-same c.self.invariant c.add.new.self _ same (omega arith))
