use Rattle.byte_scan.proofs.DigitLemmas.{HasRead}
use Rattle.byte_scan.proofs.scan.leading_number.Given as goal

abbrev pub invariant-loop-i : goal.invariant-loop-i
invariant-loop-i l = HasRead l.bytes l.i l.value
