use native.Mathlib.Omega.{arith}
use Rattle.word_sim.proofs.RowLemmas.{kept-signatures}
use Rattle.word_sim.proofs.sigs.Sigs.of.Goals as goal

pub returns : goal.returns
returns c =
    kept-signatures c.args.net.now c.args.pool.now.patterns c.patterns.result c.positions.result c.args.words.items c.requires
    c.patterns.ensures.count (omega (arith, c.patterns.ensures.count, c.patterns.ensures.some)) c.positions.ensures
