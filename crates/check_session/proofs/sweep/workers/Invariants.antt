use Rattle.std.proofs.Common.{◌≡◌, length}
use Rattle.check_session.proofs.sweep.workers.Given as goal

abbrev pub invariant-loop-number : goal.invariant-loop-number
invariant-loop-number l = length l.workers.items ≡ l.number
