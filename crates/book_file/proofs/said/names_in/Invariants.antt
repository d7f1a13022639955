use Rattle.book_file.proofs.SaidLemmas.{AreNames}
use Rattle.book_file.proofs.said.names_in.Given as goal

abbrev pub invariant-loop-word : goal.invariant-loop-word
invariant-loop-word l = AreNames l.fn.words l.names.items l.word-iterator
