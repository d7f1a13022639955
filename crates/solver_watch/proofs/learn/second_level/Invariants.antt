use Rattle.solver_watch.specs.Marked.{IsSecond}
use Rattle.solver_watch.proofs.learn.second_level.Given as goal

abbrev pub invariant-loop-place : goal.invariant-loop-place
invariant-loop-place l = IsSecond l.puts l.below l.level
