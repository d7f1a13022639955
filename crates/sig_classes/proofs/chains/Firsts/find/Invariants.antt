-- The link stands in the chain of the row's bucket, and each member of its class stands from there on.
use Rattle.std.proofs.Common.{◌≤◌, ℕ, Bool, length}
use Rattle.sig_classes.specs.Chains.{HasMembers}
use Rattle.sig_classes.proofs.ChainLemmas.{IsSearched}
use Rattle.sig_classes.proofs.chains.Firsts.find.Given as goal

abbrev pub invariant-loop-link : goal.invariant-loop-link
invariant-loop-link l = (l.link ≤ length l.self.behind)
    × ((member : ℕ → Bool) → HasMembers l.classes l.sigs member l.self → IsSearched l.classes l.sigs member l.self l.position l.link)

abbrev pub decreases-loop-link : goal.decreases-loop-link
decreases-loop-link l = l.link
