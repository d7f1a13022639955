-- No node that was passed is a root with a row alike.
use Rattle.std.proofs.Common.{◌≡◌, ◌<◌, ◌&&◌, ℕ, false}
use Rattle.sig_classes.specs.Chains.{are_alike}
use Rattle.sig_classes.specs.Pass.{root_at}
use Rattle.sig_classes.proofs.first.leader.Given as goal

abbrev pub invariant-loop-position : goal.invariant-loop-position
invariant-loop-position l = (r : ℕ) → r < l.position → (root_at l.net l.book.entries r && are_alike l.sigs r l.place) ≡ false
