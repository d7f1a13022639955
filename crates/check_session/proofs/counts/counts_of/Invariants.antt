use Rattle.std.proofs.Common.{take}
use Rattle.check_session.specs.Counts.{AreCountsUpTo}
use Rattle.check_session.proofs.counts.counts_of.Given as goal

abbrev pub invariant-loop-place : goal.invariant-loop-place
invariant-loop-place l = AreCountsUpTo l.patterns (take l.place l.book.entries) l.counts
