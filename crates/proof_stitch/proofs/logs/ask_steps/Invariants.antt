use Rattle.std.proofs.Common.{◌≡◌, ◌+◌, drop}
use Rattle.proof_stitch.specs.Steps.{additions_from}
use Rattle.proof_stitch.specs.Table.{AreMarked, KeepsShape, always, named_ids}
use Rattle.proof_stitch.specs.declared.by_step.ByStep.{ByStep}
use Rattle.proof_stitch.proofs.logs.ask_steps.Given as goal

-- whoever marks the steps that are left has marked all
abbrev pub invariant-loop-step : goal.invariant-loop-step
invariant-loop-step l = record {
  id_is : l.id ≡ l.first + l.step-index;
  shape : KeepsShape l.initial.marks l.marks;
  marked : (t : ByStep)
      → AreMarked (named_ids (additions_from l.net l.shown l.first (l.first + l.step-index) (drop l.step-index l.steps))) always l.marks t
      → AreMarked (named_ids (additions_from l.net l.shown l.first l.first l.steps)) always l.initial.marks t;
}
