-- The spots of variables: which of them are marked in this query, and their numbers.
use Rattle.std.specs.Prelude.{ℕ, zero, suc, Bool, ◌==◌, Option, None, Some, List, slice_index_or, if◌then◌else◌}
use Rattle.flat_cones.specs.declared.spots.Spot.{Spot}

-- the stamp of this query, and the spots by variables
pub record Table : Type 0 where
  pub stamp : ℕ
  pub spots : List Spot

-- what stands behind the last spot: no query has stamp 0
abbrev pub blank : Spot
blank = record { stamp = 0; number = 0 }

abbrev pub spot_at : Table → ℕ → Spot
spot_at t v = slice_index_or t.spots v blank

-- this query has marked the variable
abbrev pub is_marked : Table → ℕ → Bool
is_marked t v = (spot_at t v).stamp == t.stamp

-- numbers are kept counted from 1
abbrev pub number_in : ℕ → Option ℕ
number_in zero = None
number_in (suc k) = Some k

-- the number that this query gave the variable
abbrev pub number_at : Table → ℕ → Option ℕ
number_at t v = if is_marked t v then number_in (spot_at t v).number else None
