use Rattle.std.proofs.Common.{◌≡◌, ◌∙◌, List, ◌∷◌, sym, ap, subst}
use Rattle.std.specs.Prelude.{IfOk}
use Rattle.std.proofs.lemmas.List.{take_all, map_more}
use Rattle.lits.specs.Clause.{IsClause}
use Rattle.lits.specs.Same.{same_lit, opposite}
use Rattle.lits.specs.declared.literal.Lit.{Lit}
use Rattle.watch_lists.specs.Trail.{put_at}
use Rattle.solver_watch.specs.Marked.{negations_at}
use Rattle.watch_lists.proofs.Facts.{has-at}
use Rattle.solver_watch.proofs.learn.negated.Goals as goal

pub put-requires-in-loop-place : goal.put-requires-in-loop-place
put-requires-in-loop-place c = c.requires.within _ (has-at c.args.below.now c.loop-place.place-index c.loop-place-test.true)

pub loop-place-preserved : goal.loop-place-preserved
loop-place-preserved c =
    let puts = c.args.puts.now in
    rw (c.in_ok-push-2.ensures.items, c.loop-place.invariant, c.not-in-loop-place.ensures, c.put-in-loop-place.ensures)
    (ap (λ lits. opposite (put_at puts c.args.point).lit ∷ lits)
    (sym (map_more (λ k. opposite (put_at puts k).lit) c.args.below.now c.loop-place.place-index _ c.loop-place-test.true)))

pub returns : goal.returns
returns c =
    subst (λ (lits : List Lit). IfOk c.from_slice.result (λ clause. clause ≡ lits))
    (c.as_slice.ensures.value ∙ c.loop-place.invariant
    ∙ ap (λ places. negations_at c.args.puts.now (c.args.point ∷ places)) (take_all c.loop-place.place-index c.args.below.now c.loop-place-test.false))
    c.from_slice.ensures

pub from_slice-requires : goal.from_slice-requires
from_slice-requires c =
    subst (IsClause same_lit opposite)
    (sym (c.as_slice.ensures.value ∙ c.loop-place.invariant
    ∙ ap (λ places. negations_at c.args.puts.now (c.args.point ∷ places)) (take_all c.loop-place.place-index c.args.below.now c.loop-place-test.false)))
    c.requires.clause
