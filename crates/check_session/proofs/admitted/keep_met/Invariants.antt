-- The row has the bits of the patterns on which the constraints so far are true.
use Rattle.check_session.proofs.AdmittedLemmas.{AreMet}
use Rattle.check_session.proofs.admitted.keep_met.Given as goal

abbrev pub invariant-loop-k : goal.invariant-loop-k
invariant-loop-k l = AreMet l.net l.sigs l.side l.fn.row l.k l.row
