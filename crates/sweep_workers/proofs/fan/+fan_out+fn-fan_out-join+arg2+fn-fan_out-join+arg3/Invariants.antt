use Rattle.std.proofs.Common.{◌+◌, ◌*◌, length}
use Rattle.sweep_workers.proofs.fan.+fan_out+fn-fan_out-join+arg2+fn-fan_out-join+arg3.Given as goal

-- each half has fewer workers; a closure comes before the call in it
abbrev pub decreases-fan_out : goal.decreases-fan_out
decreases-fan_out g l = 2 * length l.workers.now

abbrev pub decreases-join+arg2 : goal.decreases-join+arg2
decreases-join+arg2 g l = 2 * length l.back.now + 1

abbrev pub decreases-join+arg3 : goal.decreases-join+arg3
decreases-join+arg3 g l = 2 * length l.front.now + 1
