use Rattle.book_file.proofs.SaidLemmas.{AreLiterals}
use Rattle.book_file.proofs.said.literals_in.Given as goal

abbrev pub invariant-loop-word : goal.invariant-loop-word
invariant-loop-word l = record {
  can : (goal.iterator-loop-word).can_next l.words;
  finite : (goal.iterator-loop-word).is_finite l.words;
  read : AreLiterals l.initial.words l.lits.items l.words;
}
