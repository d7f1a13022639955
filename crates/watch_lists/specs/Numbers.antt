-- Which literals stand for variables.
use Rattle.std.specs.Prelude.{◌≡◌, ℕ, ◌<◌, false, List, length, slice_index_or}
use Rattle.lits.specs.declared.literal.Lit.{Lit}

-- none of the literals has a sign
pub record AreVariables (lits : List Lit) : Type 0 where
  pub plain : (k : ℕ) (d : Lit) → k < length lits → (slice_index_or lits k d).neg ≡ false
