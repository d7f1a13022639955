-- The words of the values that were passed have their bits set, the others are as they were.
use Rattle.word_sim.proofs.PoolLemmas.{IsSetting}
use Rattle.word_sim.proofs.pool.set_bits.Given as goal

abbrev pub invariant-loop-i : goal.invariant-loop-i
invariant-loop-i l = IsSetting l.from l.input l.place l.fn.words.items l.i l.words.items
