-- The entries so far are about A.
use Rattle.std.proofs.Common.{take}
use Rattle.std.specs.List.{AllByRecursion}
use Rattle.fraig_write.specs.Mirror.{IsOfA}
use Rattle.file_rows.proofs.reduced.are_of_a.Given as goal

abbrev pub invariant-loop-place : goal.invariant-loop-place
invariant-loop-place l = AllByRecursion IsOfA (take l.place l.book.entries)
