-- What is merged of the positions that were passed is left out.
use Rattle.sig_classes.specs.Kept.{AreWithout}
use Rattle.sig_classes.proofs.kept.drop_merged.Given as goal

abbrev pub invariant-loop-position : goal.invariant-loop-position
invariant-loop-position l = AreWithout l.net l.book.entries l.position l.initial.leaders l.leaders
