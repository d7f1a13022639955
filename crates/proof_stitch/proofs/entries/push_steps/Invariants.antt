use Rattle.std.proofs.Common.{◌≡◌, ℕ, ◌+◌, ◌<◌, Bool, List, ◌++◌, drop}
use Rattle.lrat_text.specs.declared.step.LratStep.{LratStep}
use Rattle.proof_stitch.specs.Progress.{GoesOn}
use Rattle.proof_stitch.specs.Steps.{additions_from}
use Rattle.proof_stitch.specs.Table.{HasMarks, KeepsShape}
use Rattle.proof_stitch.specs.Trimmed.{reached}
use Rattle.proof_stitch.proofs.entries.push_steps.Given as goal

-- what holds before the steps that are left
abbrev pub invariant-loop-step : goal.invariant-loop-step
invariant-loop-step g l = record {
  id_is : l.id ≡ l.first + l.step-index;
  shape : KeepsShape l.initial.names l.names;
  behind : l.proof.last < l.id;
  started : (g.D.Desk.state l.desk).started ≡ (g.D.Desk.state l.initial.desk).started;
  text : (asked : ℕ → Bool) (all left : List LratStep) → HasMarks asked (reached asked all) l.marks
      → GoesOn l.marks.clauses asked all (additions_from l.net l.shown l.first l.first l.steps ++ left)
      (additions_from l.net l.shown l.first l.id (drop l.step-index l.steps) ++ left) l.first l.id l.initial.names l.names l.initial.proof l.proof
      (g.D.Desk.state l.initial.desk) (g.D.Desk.state l.desk) (g.D.Desk.sizes l.initial.desk) (g.D.Desk.sizes l.desk);
}
