-- The book stays legal.
use Rattle.lemma_book.specs.Book.{IsLegal}
use Rattle.book_rows.proofs.lemmas.offer_lines.Given as goal

abbrev pub invariant-loop-line : goal.invariant-loop-line
invariant-loop-line g l = IsLegal l.net l.book
