-- The words that were passed are written.
use Rattle.std.proofs.Common.{bit_and, bit_xor}
use Rattle.std.specs.List.{slice_index_or}
use Rattle.word_sim.proofs.BitLemmas.{IsWritten}
use Rattle.word_sim.proofs.words.put_both.Given as goal

abbrev pub invariant-loop-w : goal.invariant-loop-w
invariant-loop-w l = IsWritten (λ w. bit_and (bit_xor (slice_index_or l.left w 0) l.left_mask) (bit_xor (slice_index_or l.right w 0) l.right_mask)) l.fn.words l.w l.words
