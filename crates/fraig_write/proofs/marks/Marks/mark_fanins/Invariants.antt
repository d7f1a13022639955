-- The gates from gate k on are passed.
use Rattle.std.proofs.Common.{◌≤◌, length}
use Rattle.fraig_write.specs.Marks.{IsWalked}
use Rattle.fraig_write.proofs.marks.Marks.mark_fanins.Given as goal

abbrev pub invariant-loop-k : goal.invariant-loop-k
invariant-loop-k l = (l.k ≤ length l.net.a.gates) × IsWalked l.net l.book.entries l.k l.self

abbrev pub decreases-loop-k : goal.decreases-loop-k
decreases-loop-k l = l.k
