use Rattle.lrat_text.proofs.PlaceLemmas.{ReadSoFar}
use Rattle.lrat_text.specs.Reading.{words_in}
use Rattle.lrat_text.specs.Parts.{zeros_before}
use Rattle.lrat_text.proofs.parts.Parts.read.Given as goal

abbrev pub invariant-loop-word : goal.invariant-loop-word
invariant-loop-word l =
    ReadSoFar (zeros_before l.fn.place) (words_in l.line)
    (words_in l.word-iterator.line.now) l.parts
