use Rattle.std.proofs.Common.{◌<◌, ℕ}
use Rattle.solver_watch.specs.Choice.{IsTaken}
use Rattle.solver_watch.proofs.choice.first_free.Given as goal

abbrev pub invariant-loop-variable : goal.invariant-loop-variable
invariant-loop-variable l = (v : ℕ) → v < l.variable → IsTaken l.trail v
