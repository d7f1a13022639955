-- What is known are values, and either one more becomes known or an earlier position is looked at.
use Rattle.std.proofs.Common.{◌≤◌, ◌+◌, All}
use Rattle.lemma_book.specs.ConeValue.{AreValues, IsNext}
use Rattle.lemma_book.proofs.ConeValueLemmas.{unknown_below, rank}
use Rattle.lemma_book.proofs.cone_value.value_at.Given as goal

abbrev pub invariant-loop-next : goal.invariant-loop-next
invariant-loop-next l =
    (AreValues l.known l.net l.input) × (All (λ p. p ≤ l.position) l.waiting.items) × (IsNext l.known l.position l.next)

abbrev pub decreases-loop-next : goal.decreases-loop-next
decreases-loop-next l = unknown_below (l.position + 1) l.known (l.position + 1) + rank l.next
