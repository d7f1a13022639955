-- The gate merges, or it is noted.
use Rattle.std.proofs.Common.{◌∙◌, [], List, Option, ap, sym, subst, arith}
use Rattle.std.specs.Prelude.{IfSome}
use Rattle.netlist.specs.declared.gate.Definition.{Definition}
use Rattle.std.proofs.lemmas.Result.{on_ok_weaker}
use Rattle.std.proofs.lemmas.Option.{slice_get_within}
use Rattle.netlist.specs.Net.{definitions}
use Rattle.lits.specs.declared.literal.Lit.{Lit}
use Rattle.netlist.specs.Miter.{positive}
use Rattle.lemma_book.specs.Root.{merge_of, root_of}
use Rattle.strash_pass.specs.declared.merged.Known.{Known}
use Rattle.strash_pass.specs.Merged.{AreMergesOf}
use Rattle.strash_pass.specs.Strash.{folded}
use Rattle.strash_pass.specs.Pass.{IsPass, IsTwin, IsWay}
use Rattle.strash_pass.proofs.GateFacts.{fanins-known, fanins-there, is-gate}
use Rattle.strash_pass.proofs.WayLemmas.{way-of}
use Rattle.strash_pass.proofs.AddsLemmas.{adds-none, fold-grows, twin-grows}
use Rattle.strash_pass.proofs.PassLemmas.{few-gates, no-root, pass-merged, pass-skipped, root-from}
use Rattle.strash_pass.proofs.visit.Pass.settle.Goals as goal

pub returns-then-is_merged-clause-pass : goal.returns-then-is_merged-clause-pass
returns-then-is_merged-clause-pass c =
    pass-skipped c.args.net.now c.args.book.now.entries c.args.self.now.twins c.args.self.now.visited c.args.gate c.requires.gate c.requires.pass
    (no-root (merge_of c.args.book.now.entries c.args.gate.node) c.is_merged.result c.is_merged.ensures c.if-is_merged.true)

pub returns-then-is_merged-clause-grows : goal.returns-then-is_merged-clause-grows
returns-then-is_merged-clause-grows c = adds-none _ _ _ _ (omega arith)

pub gate_position-at-requires-clause-gate : goal.gate_position-at-requires-clause-gate
gate_position-at-requires-clause-gate c = slice_get_within (definitions c.args.net.now) c.args.self.now.visited c.args.gate c.requires.gate

pub overflow_cast-self : goal.overflow_cast-self
overflow_cast-self c = omega (arith, few-gates c.args.net.now c.requires.net c.args.self.now.visited c.args.gate c.requires.gate)

pub fanins_at-fanins-requires : goal.fanins_at-fanins-requires
fanins_at-fanins-requires c = fanins-there c.args.net.now c.requires.net c.args.self.now.visited c.args.gate c.requires.gate

pub roots_of-requires-clause-left_at : goal.roots_of-requires-clause-left_at
roots_of-requires-clause-left_at c =
    let both = fanins-known c.args.net.now c.requires.net c.args.self.now.visited c.args.gate c.fanins_at-fanins.result c.requires.gate c.fanins_at-fanins.ensures in
    both.0

pub roots_of-requires-clause-right_at : goal.roots_of-requires-clause-right_at
roots_of-requires-clause-right_at c =
    let both = fanins-known c.args.net.now c.requires.net c.args.self.now.visited c.args.gate c.fanins_at-fanins.result c.requires.gate c.fanins_at-fanins.ensures in
    both.1

pub returns-in_err-roots-clause-grows : goal.returns-in_err-roots-clause-grows
returns-in_err-roots-clause-grows c = adds-none _ _ _ _ (omega arith)

pub merge_folded-requires-clause-way : goal.merge_folded-requires-clause-way
merge_folded-requires-clause-way c =
    let es = c.args.book.now.entries in
    let gate = is-gate c.args.net.now c.requires.net c.args.self.now.visited c.args.gate c.requires.gate in
    let root = root-from (merge_of es c.args.gate.node) c.is_merged.result c.is_merged.ensures c.if-is_merged.false in
    subst (λ (l : List Lit). IsWay c.args.net.now es l c.args.gate) (sym c.in_ok-roots.ensures.way)
    (way-of c.args.net.now c.args.book.now c.requires.legal [] tt c.args.self.now.visited c.args.gate gate root)

pub returns-in-Some-clause-grows : goal.returns-in-Some-clause-grows
returns-in-Some-clause-grows c =
    let root = root-from (merge_of c.args.book.now.entries c.args.gate.node) c.is_merged.result c.is_merged.ensures c.if-is_merged.false in
    fold-grows c.args.net.now c.args.book.now c.merge_folded.new.book c.args.self.now.visited c.args.gate c.requires.gate root
    c.in_ok-roots.roots.left.lit c.in_ok-roots.roots.right.lit c.in-Some.target c.roots_of.new.way.items c.merge_folded.result c.in_ok-roots.ensures.way
    c.in_ok-roots.ensures.left.root c.in_ok-roots.ensures.right.root (sym c.folded.ensures ∙ c.in-Some.is) c.merge_folded.ensures.ok c.merge_folded.ensures.err

pub returns-in-Some-clause-pass : goal.returns-in-Some-clause-pass
returns-in-Some-clause-pass c =
    on_ok_weaker c.merge_folded.result
    (λ m. pass-merged c.args.net.now c.requires.net c.args.book.now c.merge_folded.new.book c.requires.legal c.args.self.now.visited c.args.gate c.requires.gate
    _ c.in-Some.target m c.args.self.now.twins c.requires.pass)
    c.merge_folded.ensures.ok

pub merge_twin-requires-clause-way : goal.merge_twin-requires-clause-way
merge_twin-requires-clause-way c =
    let es = c.args.book.now.entries in
    let gate = is-gate c.args.net.now c.requires.net c.args.self.now.visited c.args.gate c.requires.gate in
    let root = root-from (merge_of es c.args.gate.node) c.is_merged.result c.is_merged.ensures c.if-is_merged.false in
    subst (λ (l : List Lit). IsWay c.args.net.now es l c.args.gate) (sym (c.twin.ensures.way ∙ c.in_ok-roots.ensures.way))
    (way-of c.args.net.now c.args.book.now c.requires.legal [] tt c.args.self.now.visited c.args.gate gate root)

pub returns-in-Some-2-clause-grows : goal.returns-in-Some-2-clause-grows
returns-in-Some-2-clause-grows c =
    let root = root-from (merge_of c.args.book.now.entries c.args.gate.node) c.is_merged.result c.is_merged.ensures c.if-is_merged.false in
    let found = subst (λ (o : Option Definition). IfSome o (λ x. IsTwin c.args.net.now c.args.book.now.entries x c.args.gate
    × IsPass c.args.net.now c.args.book.now.entries c.twin.new.self.twins c.args.self.now.visited)) c.in-Some-2.is c.in_ok-twin-in-None.ensures.twin in
    twin-grows c.args.net.now c.args.book.now c.merge_twin.new.book c.args.self.now.visited c.args.gate c.requires.gate root
    c.in-Some-2.twin c.twin.new.self.way.items c.merge_twin.result c.requires.net (c.twin.ensures.way ∙ c.in_ok-roots.ensures.way) c.requires.pass.plain found.0
    (ap (λ (x : Lit). folded x (root_of c.args.book.now.entries c.args.gate.right)) (sym c.in_ok-roots.ensures.left.root)
    ∙ ap (folded c.in_ok-roots.roots.left.lit) (sym c.in_ok-roots.ensures.right.root) ∙ sym c.folded.ensures ∙ c.in-None.is)
    c.merge_twin.ensures.ok c.merge_twin.ensures.err

pub returns-in-Some-2-clause-pass : goal.returns-in-Some-2-clause-pass
returns-in-Some-2-clause-pass c =
    let found = subst (λ (o : Option Definition). IfSome o (λ x. IsTwin c.args.net.now c.args.book.now.entries x c.args.gate
    × IsPass c.args.net.now c.args.book.now.entries c.twin.new.self.twins c.args.self.now.visited)) c.in-Some-2.is c.in_ok-twin-in-None.ensures.twin in
    on_ok_weaker c.merge_twin.result
    (λ m. pass-merged c.args.net.now c.requires.net c.args.book.now c.merge_twin.new.book c.requires.legal c.args.self.now.visited c.args.gate c.requires.gate
    _ (positive c.in-Some-2.twin.node) m c.twin.new.self.twins found.1)
    c.merge_twin.ensures.ok

pub merge_twin-requires-clause-merged : goal.merge_twin-requires-clause-merged
merge_twin-requires-clause-merged c =
    subst (λ (m : List (Option Known)). AreMergesOf c.args.net.now c.args.book.now.entries m) (sym c.twin.ensures.merged) c.requires.merged

pub returns-in-None-2-clause-merged : goal.returns-in-None-2-clause-merged
returns-in-None-2-clause-merged c =
    subst (λ (m : List (Option Known)). AreMergesOf c.args.net.now c.args.book.now.entries m) (sym c.twin.ensures.merged) c.requires.merged

pub overflow_cast-self-2 : goal.overflow_cast-self-2
overflow_cast-self-2 c = omega (arith, few-gates c.args.net.now c.requires.net c.args.self.now.visited c.args.gate c.requires.gate)
