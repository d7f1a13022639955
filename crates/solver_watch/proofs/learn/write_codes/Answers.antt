use Rattle.std.proofs.Common.{◌∷◌, [], ℕ, List, take, get_or, refl, sym, ap, ◌∙◌}
use Rattle.std.proofs.lemmas.List.{take_more}
use Rattle.std.proofs.lemmas.List.Elements.{All-nil}
use Rattle.flat_base.specs.Codes.{IsCode}
use Rattle.watch_lists.proofs.Facts.{has-at}
use Rattle.solver_watch.specs.Marked.{negations_at}
use Rattle.solver_watch.proofs.CodeLemmas.{codes-next}
use Rattle.solver_watch.proofs.learn.write_codes.Goals as goal

pub code_at-requires-in-loop-place : goal.code_at-requires-in-loop-place
code_at-requires-in-loop-place c = c.requires.within _ (has-at c.args.below.now c.loop-place.place-index c.loop-place-test.true)

pub loop-place-init : goal.loop-place-init
loop-place-init c =
    let next = codes-next c.args.trail.now [] [] c.code_at.result c.flip.result c.args.point refl (All-nil (IsCode c.args.trail.now.nodes)) c.code_at.ensures.code c.code_at.ensures.lit c.flip.ensures in
    rw (c.in_ok-push.ensures.items, c.clear.ensures.items) (record { codes = next.0; within = next.1 })

pub loop-place-preserved : goal.loop-place-preserved
loop-place-preserved c =
    let t = c.args.trail.now in
    let below = c.args.below.now in
    let next = codes-next t c.loop-place.codes.items (c.args.point ∷ take c.loop-place.place-index below) c.code_at-in-loop-place.result c.flip-in-loop-place.result
    (get_or below c.loop-place.place-index 0) c.loop-place.invariant.codes c.loop-place.invariant.within c.code_at-in-loop-place.ensures.code
    c.code_at-in-loop-place.ensures.lit c.flip-in-loop-place.ensures in
    rw c.in_ok-push-2.ensures.items (record {
      codes = next.0 ∙ ap (λ (ks : List ℕ). negations_at t.puts (c.args.point ∷ ks)) (sym (take_more below c.loop-place.place-index 0 c.loop-place-test.true));
      within = next.1;
    })
