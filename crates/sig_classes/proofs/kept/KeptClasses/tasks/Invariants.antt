-- The classes are kept and have all roots, and more patterns were seen.
use Rattle.std.proofs.Common.{◌-◌, length}
use Rattle.sig_classes.specs.Kept.{AreKept, HaveRoots}
use Rattle.sig_classes.proofs.kept.KeptClasses.tasks.Given as goal

abbrev pub invariant-loop-self : goal.invariant-loop-self
invariant-loop-self l = record {
  kept : AreKept l.net l.pool.patterns l.self;
  roots : HaveRoots l.net l.book.entries l.self.leaders;
}

abbrev pub decreases-loop-self : goal.decreases-loop-self
decreases-loop-self l = length l.pool.patterns - l.self.seen
