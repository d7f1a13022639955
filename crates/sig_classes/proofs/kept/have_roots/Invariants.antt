-- No root of those that were passed is left out.
use Rattle.std.proofs.Common.{◌≡◌, ◌<◌, ℕ, true}
use Rattle.sig_classes.specs.Kept.{counts}
use Rattle.sig_classes.specs.Pass.{root_at}
use Rattle.sig_classes.proofs.kept.have_roots.Given as goal

abbrev pub invariant-loop-position : goal.invariant-loop-position
invariant-loop-position l = (p : ℕ) → p < l.position → root_at l.net l.book.entries p ≡ true → counts l.leaders p ≡ true
