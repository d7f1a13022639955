-- The entries so far have their numbers, and the others those that come next.
use Rattle.std.proofs.Common.{◌≡◌, ◌≤◌, ◌++◌, length, drop}
use Rattle.book_file.specs.Writing.{numbers_from}
use Rattle.book_file.proofs.writing.numbers_in.Given as goal

abbrev pub invariant-loop-place : goal.invariant-loop-place
invariant-loop-place l = record {
  numbers : numbers_from 0 l.book.entries ≡ l.numbers.items ++ numbers_from l.next (drop l.place l.book.entries);
  count : length l.numbers.items ≡ l.place;
  next : l.next ≤ l.place;
}
