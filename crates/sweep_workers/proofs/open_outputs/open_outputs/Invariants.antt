use Rattle.std.proofs.Common.{◌≡◌}
use Rattle.sweep_workers.specs.Asked.{open_tasks}
use Rattle.sweep_workers.proofs.open_outputs.open_outputs.Given as goal

abbrev pub invariant-loop-output : goal.invariant-loop-output
invariant-loop-output l = l.tasks.items ≡ open_tasks l.book.entries l.output
