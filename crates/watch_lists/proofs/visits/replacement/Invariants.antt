use Rattle.std.proofs.Common.{◌≡◌, ℕ, true, false, nat_eq, slice_index_or, take}
use Rattle.lits.specs.Clause.{has}
use Rattle.watch_lists.specs.Codes.{flip}
use Rattle.watch_lists.proofs.visits.replacement.Given as goal

abbrev pub invariant-loop-lit : goal.invariant-loop-lit
invariant-loop-lit l =
    (m : ℕ) → has nat_eq (take l.lit-index l.clause) m ≡ true → nat_eq l.other m ≡ false
    → slice_index_or l.truth (flip m) false ≡ true
