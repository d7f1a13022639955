use Rattle.std.proofs.Common.{◌≡◌, take}
use Rattle.check_session.specs.Begun.{with_inputs}
use Rattle.check_session.proofs.begin.join_all.Given as goal

abbrev pub invariant-loop-input : goal.invariant-loop-input
invariant-loop-input l = l.pool ≡ with_inputs l.fn.pool (take l.input-index l.inputs)
