use Rattle.std.proofs.Common.{◌≡◌, ◌+◌, ◌≤◌, length}
use Rattle.tokens.specs.Words.{lines_in}
use Rattle.book_file.specs.Reading.{entries_in}
use Rattle.book_file.specs.Drafts.{entries_from}
use Rattle.book_file.proofs.reading.read.Given as goal

abbrev pub invariant-loop-line : goal.invariant-loop-line
invariant-loop-line l = record {
  count : l.at + length l.rest ≤ length l.bytes + 1;
  read : entries_in l.bytes ≡ entries_from l.draft l.at (lines_in l.rest);
}

abbrev pub decreases-loop-line : goal.decreases-loop-line
decreases-loop-line l = length l.rest
