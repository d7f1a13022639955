-- Each round adds the clauses of one node.
use Rattle.std.proofs.Common.{◌≡◌, ◌∙◌, ◌<◌, ◌++◌, ℕ, List, Some, length, ap, refl, arith, map}
use Rattle.std.specs.Prelude.{slice_get}
use Rattle.std.specs.List.{flat_map}
use Rattle.std.proofs.lemmas.List.{take_all}
use Rattle.lits.specs.declared.step.Named.{Named}
use Rattle.lemma_book.specs.Cone.{named_clauses}
use Rattle.flat_cones.specs.Walk.{node_by}
use Rattle.flat_cones.proofs.WalkLemmas.{any-at}
use Rattle.flat_cones.proofs.NumberLemmas.{numbered-empty}
use Rattle.flat_cones.proofs.ConeLemmas.{at-index, clauses-next}
use Rattle.flat_cones.proofs.cones.fill.Goals as goal

pub loop-place-init : goal.loop-place-init
loop-place-init c = (
  refl,
  (rw c.clear.ensures (numbered-empty c.args.net.now c.args.walk.now.spots c.requires.unnumbered), rw c.clear.ensures refl),
)

pub add_node-requires-clause-there : goal.add_node-requires-clause-there
add_node-requires-clause-there c =
    let old = c.args.walk.now.found.items in
    let v = c.index-variable.result.now in
    let below : c.loop-place.place < length c.args.walk.now.found.items = omega (arith, c.loop-place-test.true, c.len-place-end.ensures, c.args.walk.now.found.ok.0) in
    let here : slice_get c.args.walk.now.found.items c.loop-place.place ≡ Some c.index-variable.result.now =
    at-index old c.loop-place.place v below (rw c.loop-place.invariant.0 at c.index-variable.ensures) in
    c.requires.there v (any-at old c.loop-place.place v here)

pub add_node-requires-clause-numbered : goal.add_node-requires-clause-numbered
add_node-requires-clause-numbered c = c.loop-place.invariant.1.0

pub loop-place-preserved : goal.loop-place-preserved
loop-place-preserved c =
    let old = c.args.walk.now.found.items in
    let v = c.index-variable.result.now in
    let below : c.loop-place.place < length c.args.walk.now.found.items = omega (arith, c.loop-place-test.true, c.len-place-end.ensures, c.args.walk.now.found.ok.0) in
    let here : slice_get c.args.walk.now.found.items c.loop-place.place ≡ Some c.index-variable.result.now =
    at-index old c.loop-place.place v below (rw c.loop-place.invariant.0 at c.index-variable.ensures) in (
      c.loop-place.invariant.0,
      (
        c.in_ok-add_node.ensures.numbered,
        c.in_ok-add_node.ensures.named
            ∙ ap (λ (l : List Named). l ++ named_clauses c.args.net.now c.args.book.now.entries (node_by c.args.net.now v)) c.loop-place.invariant.1.1
            ∙ clauses-next c.args.net.now (named_clauses c.args.net.now c.args.book.now.entries) old c.loop-place.place v (node_by c.args.net.now v) here refl,
      ),
    )

pub returns-clause-numbered : goal.returns-clause-numbered
returns-clause-numbered c = c.loop-place.invariant.1.0

pub returns-clause-clauses : goal.returns-clause-clauses
returns-clause-clauses c =
    c.loop-place.invariant.1.1
    ∙ ap (λ (vs : List ℕ). flat_map (named_clauses c.args.net.now c.args.book.now.entries) (map (node_by c.args.net.now) vs))
    (take_all c.loop-place.place c.args.walk.now.found.items (omega (arith, c.loop-place-test.false, c.len-place-end.ensures, c.args.walk.now.found.ok.0)))
