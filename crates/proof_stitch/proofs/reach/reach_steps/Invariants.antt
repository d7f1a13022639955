use Rattle.std.proofs.Common.{ℕ, ◌+◌, ◌≤◌, Bool, List, ◌++◌, drop, length}
use Rattle.lrat_text.specs.declared.step.LratStep.{LratStep}
use Rattle.proof_stitch.specs.Steps.{additions_from}
use Rattle.proof_stitch.specs.Table.{HasMarks, KeepsShape}
use Rattle.proof_stitch.specs.Trimmed.{reached}
use Rattle.proof_stitch.proofs.reach.reach_steps.Given as goal

-- the steps from that place on are done
abbrev pub invariant-loop-place : goal.invariant-loop-place
invariant-loop-place l = record {
  within : l.place ≤ length l.steps;
  shape : KeepsShape l.initial.marks l.marks;
  marks : (asked : ℕ → Bool) (behind : List LratStep) → HasMarks asked (reached asked behind) l.initial.marks
      → HasMarks asked (reached asked (additions_from l.net l.shown l.first (l.first + l.place) (drop l.place l.steps) ++ behind)) l.marks;
}

abbrev pub decreases-loop-place : goal.decreases-loop-place
decreases-loop-place l = l.place
