-- The blocks that were passed stand there.
use Rattle.word_sim.specs.Storage.{AreBlocks}
use Rattle.word_sim.proofs.pool.Pool.blocks.Given as goal

abbrev pub invariant-loop-place : goal.invariant-loop-place
invariant-loop-place l = AreBlocks l.self l.from l.place l.words.items
