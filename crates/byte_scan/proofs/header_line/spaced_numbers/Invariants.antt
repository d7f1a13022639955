use Rattle.byte_scan.proofs.WordsLemmas.{texts}
use Rattle.byte_scan.proofs.NineLemmas.{HasWords}
use Rattle.byte_scan.proofs.header_line.spaced_numbers.Given as goal

abbrev pub invariant-loop-word : goal.invariant-loop-word
invariant-loop-word l = HasWords (texts l.yielded) l.numbers l.count
