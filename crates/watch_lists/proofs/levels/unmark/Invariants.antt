use Rattle.std.proofs.Common.{◌≡◌, ℕ, false, nat_eq, take, slice_index_or, length}
use Rattle.std.specs.Prelude.{not, ◌&&◌}
use Rattle.lits.specs.Clause.{has}
use Rattle.watch_lists.proofs.levels.unmark.Given as goal

abbrev pub invariant-loop-lit : goal.invariant-loop-lit
invariant-loop-lit l = (length l.truth.items ≡ length l.initial.truth.items) × ((m : ℕ) → slice_index_or l.truth.items m false ≡ (slice_index_or l.initial.truth.items m false && not (has nat_eq (take l.lit-index l.lits) m)))
