-- Each place of the literal is still ahead on the chain.
use Rattle.std.proofs.Common.{◌≡◌, ◌≤◌, ℕ, length}
use Rattle.std.specs.Prelude.{Some}
use Rattle.std.specs.List.{slice_get}
use Rattle.lits.specs.Chains.{Leads}
use Rattle.lits.proofs.chains.Chains.find.Given as goal

abbrev pub invariant-loop-next : goal.invariant-loop-next
invariant-loop-next g l = record {
  within : l.next ≤ length l.lits;
  ahead : (place : ℕ) → slice_get l.lits place ≡ Some l.lit → Leads l.self.links.items place l.next;
}

abbrev pub decreases-loop-next : goal.decreases-loop-next
decreases-loop-next g l = l.next
