-- The words so far have the bits that the other row has too.
use Rattle.check_session.proofs.AdmittedLemmas.{IsKept}
use Rattle.check_session.proofs.admitted.keep_bits.Given as goal

abbrev pub invariant-loop-word : goal.invariant-loop-word
invariant-loop-word l = IsKept l.fn.row l.other l.neg l.word l.row
