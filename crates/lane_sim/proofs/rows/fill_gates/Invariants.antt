-- The rows of the constant, of the inputs and of the gates that were passed stand there.
use Rattle.std.proofs.Common.{◌+◌, length}
use Rattle.word_sim.specs.Rows.{AreFilled}
use Rattle.lane_sim.proofs.rows.fill_gates.Given as goal

abbrev pub invariant-loop-k : goal.invariant-loop-k
invariant-loop-k l = AreFilled l.net l.pool.patterns (1 + length l.net.a.inputs + l.k) l.buf
