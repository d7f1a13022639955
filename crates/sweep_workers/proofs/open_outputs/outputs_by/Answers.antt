use Rattle.sweep_workers.specs.Asked.{questions}
use Rattle.sweep_workers.specs.Answered.{AreAnswered}
use Rattle.sweep_workers.specs.Swept.{SettlesOutputs}
use Rattle.sweep_workers.proofs.AnswerLemmas.{if-ok, outputs-askable, settles-outputs}
use Rattle.sweep_workers.proofs.open_outputs.outputs_by.Goals as goal

pub round-requires-clause-askable : goal.round-requires-clause-askable
round-requires-clause-askable g c κs lives =
    outputs-askable c.args.net.now c.args.book.entries c.in_ok-tasks.tasks.items c.in_ok-tasks.ensures

pub returns : goal.returns
returns g c =
    if-ok c.round.result (λ r. AreAnswered c.args.net.now (questions c.in_ok-tasks.tasks.items) c.args.book r.0)
    (λ r. SettlesOutputs c.args.net.now c.args.book r.0) c.round.ensures
    (λ r done. settles-outputs c.args.net.now c.args.book r.0 c.in_ok-tasks.tasks.items c.in_ok-tasks.ensures c.requires.legal done)
