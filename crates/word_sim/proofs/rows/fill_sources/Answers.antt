use Rattle.std.proofs.Common.{◌+◌, length, arith}
use Rattle.word_sim.specs.Patterns.{words_of}
use Rattle.word_sim.proofs.RowLemmas.{kept-later}
use Rattle.word_sim.proofs.rows.fill_sources.Goals as goal

pub returns-clause-rest : goal.returns-clause-rest
returns-clause-rest c =
    kept-later (words_of (length c.args.pool.now.patterns)) 1 (1 + length c.args.net.now.a.inputs) c.args.buf.now c.fill_constant.new.buf
    c.fill_inputs.new.buf (omega arith) c.fill_constant.ensures.rest c.fill_inputs.ensures.rest
