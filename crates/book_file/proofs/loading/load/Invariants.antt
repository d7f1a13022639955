-- What is left of the entries makes of the book so far what all of them make of the empty one.
use Rattle.std.proofs.Common.{◌≡◌, length}
use Rattle.std.specs.Vec.Iter.{into_iter_items, into_iter_len}
use Rattle.lemma_book.specs.Entry.{Entries}
use Rattle.lemma_book.specs.Book.{IsLegal}
use Rattle.book_file.specs.Loaded.{Loads, IsLoaded}
use Rattle.book_file.proofs.loading.load.Given as goal

abbrev pub invariant-loop-entry : goal.invariant-loop-entry
invariant-loop-entry l = record {
  left : into_iter_len l.entry-iterator ≡ length (into_iter_items l.entry-iterator);
  loads : (last : Entries) → Loads l.net l.book l.numbers.items (into_iter_items l.entry-iterator) last
      → IsLoaded l.net l.sweep_budget l.out_budget l.fn.entries.items last;
  legal : IsLegal l.net l.book;
}
