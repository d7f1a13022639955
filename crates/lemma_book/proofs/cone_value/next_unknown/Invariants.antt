-- What waits are positions up to the sought one.
use Rattle.std.proofs.Common.{◌≤◌, All}
use Rattle.lemma_book.proofs.cone_value.next_unknown.Given as goal

abbrev pub invariant-loop-at : goal.invariant-loop-at
invariant-loop-at l = All (λ p. p ≤ l.sought) l.waiting.items

abbrev pub decreases-loop-at : goal.decreases-loop-at
decreases-loop-at l = goal.left-loop-at l
