-- The words that were passed are the same.
use Rattle.std.proofs.Common.{◌≡◌, ◌<◌, ℕ}
use Rattle.sig_classes.specs.Alike.{normal_word}
use Rattle.sig_classes.proofs.alike.is_alike.Given as goal

abbrev pub invariant-loop-w : goal.invariant-loop-w
invariant-loop-w l = (w : ℕ) → w < l.w → normal_word l.count l.a w ≡ normal_word l.count l.b w
