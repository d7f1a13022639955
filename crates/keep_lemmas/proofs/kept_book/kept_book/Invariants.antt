-- The first entries have their numbers, and those of them that stay are the new book, which is legal.
use Rattle.std.proofs.Common.{◌≡◌}
use Rattle.lemma_book.specs.Book.{IsLegal}
use Rattle.netlist_edits.specs.Edited.{touched_by}
use Rattle.keep_lemmas.specs.Kept.{stays}
use Rattle.keep_lemmas.specs.Keeping.{AreNumbers, kept_first}
use Rattle.keep_lemmas.proofs.kept_book.kept_book.Given as goal

abbrev pub invariant-loop-place : goal.invariant-loop-place
invariant-loop-place l =
    (AreNumbers (stays l.old (touched_by l.touched) l.book.entries) l.place l.numbers.items)
    × (l.kept ≡ kept_first l.old l.touched l.book l.place) × IsLegal l.new l.kept
