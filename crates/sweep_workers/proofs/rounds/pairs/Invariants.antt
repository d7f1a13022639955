use Rattle.std.proofs.Common.{◌≡◌, map, take}
use Rattle.sweep_workers.specs.declared.asked.Asked.TheVariants.{Pair}
use Rattle.sweep_workers.proofs.rounds.pairs.Given as goal

abbrev pub invariant-loop-task : goal.invariant-loop-task
invariant-loop-task l = l.tasks.items ≡ map Pair (take l.task-index l.due)
