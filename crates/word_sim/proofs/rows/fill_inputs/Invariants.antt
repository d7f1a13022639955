-- The rows of the constant and of the inputs that were passed stand there, and all behind them is as it was.
use Rattle.std.proofs.Common.{◌+◌, length}
use Rattle.word_sim.specs.Patterns.{words_of}
use Rattle.word_sim.specs.Rows.{AreFilled, IsKeptFrom}
use Rattle.word_sim.proofs.rows.fill_inputs.Given as goal

abbrev pub invariant-loop-input : goal.invariant-loop-input
invariant-loop-input l = record {
  filled : AreFilled l.net l.pool.patterns (l.input + 1) l.buf;
  rest : IsKeptFrom (words_of (length l.pool.patterns)) (l.input + 1) l.fn.buf l.buf;
}
