-- The hash of the words that were passed.
use Rattle.std.proofs.Common.{◌≡◌}
use Rattle.sig_classes.specs.Alike.{hash_of_first, normal_word}
use Rattle.sig_classes.proofs.alike.hash.Given as goal

abbrev pub invariant-loop-w : goal.invariant-loop-w
invariant-loop-w l = l.hash ≡ hash_of_first l.class (normal_word l.count l.row) l.w
