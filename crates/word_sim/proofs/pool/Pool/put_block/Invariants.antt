-- The words of the inputs that were passed stand last.
use Rattle.word_sim.specs.Storage.{IsBlock}
use Rattle.word_sim.proofs.pool.Pool.put_block.Given as goal

abbrev pub invariant-loop-input : goal.invariant-loop-input
invariant-loop-input l = IsBlock l.self l.word l.input l.fn.words.items l.words.items
