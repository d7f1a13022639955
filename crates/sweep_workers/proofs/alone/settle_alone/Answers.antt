-- One more task is answered.
use Rattle.std.proofs.Common.{◌+◌, take, refl}
use Rattle.std.proofs.lemmas.List.{take_more}
use Rattle.sweep_workers.specs.Asked.{questions}
use Rattle.sweep_workers.proofs.AloneLemmas.{answered-next}
use Rattle.sweep_workers.proofs.ClosedLemmas.{answered-none}
use Rattle.sweep_workers.proofs.alone.settle_alone.Goals as goal

pub loop-place-init : goal.loop-place-init
loop-place-init g c = answered-none c.args.net.now (questions (take 0 c.args.tasks.now)) c.args.book refl c.requires.legal

pub loop-place-preserved : goal.loop-place-preserved
loop-place-preserved g c =
    let k = c.loop-place.place in
    let tasks = c.args.tasks.now in
    answered-next c.args.net.now (take k tasks) (take (k + 1) tasks) _ c.args.book c.loop-place.book _
    (take_more tasks k _ c.loop-place-test.true) c.loop-place.invariant c.in_ok-more.ensures
