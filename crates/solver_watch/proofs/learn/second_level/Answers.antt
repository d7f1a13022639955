use Rattle.std.proofs.Common.{get_or, ap, ◌∙◌, inl, inr}
use Rattle.watch_lists.specs.declared.put.Put.{Put}
use Rattle.watch_lists.proofs.Facts.{has-at}
use Rattle.solver_watch.proofs.LessonLemmas.{second-next}
use Rattle.solver_watch.proofs.learn.second_level.Goals as goal

pub put-requires : goal.put-requires
put-requires c = c.requires _ (has-at c.args.below.now c.loop-place.place-index c.loop-place-test.true)

pub loop-place-preserved : goal.loop-place-preserved
loop-place-preserved c =
    second-next c.args.puts.now c.args.below.now c.loop-place.level (get_or c.args.below.now c.loop-place.place-index 0) c.higher-level.result
    c.loop-place.invariant (has-at c.args.below.now c.loop-place.place-index c.loop-place-test.true)
    (elim c.higher-level.ensures.one [ inl e ↦ inl e | inr e ↦ inr (e ∙ ap (λ (p : Put). p.level) c.put.ensures) ])
