-- The words that were passed have all bits.
use Rattle.word_sim.proofs.BitLemmas.{IsWritten}
use Rattle.word_sim.proofs.words.put_true.Given as goal

abbrev pub invariant-loop-word : goal.invariant-loop-word
invariant-loop-word l = IsWritten (λ w. 18446744073709551615) l.fn.words l.word-index l.words
