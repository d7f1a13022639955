use Rattle.std.proofs.Common.{◌≡◌, length}
use Rattle.sweep_workers.proofs.calls.workers_of.Given as goal

abbrev pub invariant-loop-refuter : goal.invariant-loop-refuter
invariant-loop-refuter g l = length l.workers.items ≡ length l.yielded
