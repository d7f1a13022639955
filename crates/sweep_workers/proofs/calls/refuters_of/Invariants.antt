use Rattle.std.proofs.Common.{◌≡◌, length}
use Rattle.sweep_workers.proofs.calls.refuters_of.Given as goal

abbrev pub invariant-loop-worker : goal.invariant-loop-worker
invariant-loop-worker g l = length l.refuters.items ≡ length l.yielded
