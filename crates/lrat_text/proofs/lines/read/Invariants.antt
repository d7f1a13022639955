use Rattle.std.proofs.Common.{◌≡◌, length}
use Rattle.lrat_text.specs.Reading.{steps_in}
use Rattle.lrat_text.specs.Lines.{steps_left}
use Rattle.lrat_text.proofs.LoopLemmas.{with_front}
use Rattle.lrat_text.proofs.lines.read.Given as goal

abbrev pub invariant-loop-lines : goal.invariant-loop-lines
invariant-loop-lines l = steps_in l.m l.bytes ≡ with_front l.lines.items (steps_left l.text)

abbrev pub decreases-loop-lines : goal.decreases-loop-lines
decreases-loop-lines l = length l.text.bytes
