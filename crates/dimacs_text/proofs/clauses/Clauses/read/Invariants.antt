use Rattle.dimacs_text.specs.Words.{words_left}
use Rattle.dimacs_text.proofs.EntryLemmas.{ReadSoFar}
use Rattle.dimacs_text.proofs.clauses.Clauses.read.Given as goal

abbrev pub invariant-loop-word : goal.invariant-loop-word
invariant-loop-word l =
    ReadSoFar l.variables (words_left l.fn.words) (words_left l.word-iterator) l.clauses
