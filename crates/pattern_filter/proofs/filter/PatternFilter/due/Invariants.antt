use Rattle.std.proofs.Common.{◌≡◌, length}
use Rattle.pattern_filter.proofs.filter.PatternFilter.due.Given as goal

-- so far there is a mark for each task
abbrev pub invariant-loop-task : goal.invariant-loop-task
invariant-loop-task l = length l.due.items ≡ l.task-index
