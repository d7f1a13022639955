-- No word was found so far.
use Rattle.std.proofs.Common.{◌≡◌}
use Rattle.dimacs_text.specs.Words.{words_left, lines_left}
use Rattle.dimacs_text.proofs.words.WordsIterator.next.Given as goal

abbrev pub invariant-loop-word : goal.invariant-loop-word
invariant-loop-word l = words_left l.self ≡ words_left l.fn.self

abbrev pub decreases-loop-word : goal.decreases-loop-word
decreases-loop-word l = lines_left l.self
