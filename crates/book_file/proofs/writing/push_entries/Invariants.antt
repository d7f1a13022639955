-- The entries so far are written.
use Rattle.std.proofs.Common.{◌≡◌, ◌++◌, take}
use Rattle.std.specs.List.{flat_map, AllByRecursion}
use Rattle.book_file.specs.Writing.{lines_of, FitsEntry}
use Rattle.book_file.proofs.writing.push_entries.Given as goal

abbrev pub invariant-loop-place : goal.invariant-loop-place
invariant-loop-place l = record {
  written : l.text.items ≡ l.fn.text.items ++ flat_map (lines_of l.numbers) (take l.place l.book.entries);
  fit : AllByRecursion FitsEntry (take l.place l.book.entries);
}
