-- What is still known stands in the rest of the list.
use Rattle.std.proofs.Common.{◌≡◌, ℕ, Bool, true, drop}
use Rattle.std.specs.Prelude.{Some, ◌==◌}
use Rattle.lits.specs.Clause.{has}
use Rattle.lemma_book.specs.ConeValue.{known_at}
use Rattle.lemma_book.proofs.values.forget_all.Given as goal

abbrev pub invariant-loop-position : goal.invariant-loop-position
invariant-loop-position l =
    (p : ℕ) (b : Bool) → known_at l.values.items p ≡ Some b → has ◌==◌ (drop l.position-index l.listed) p ≡ true
