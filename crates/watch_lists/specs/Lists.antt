-- Lists of which the first are in use.
use Rattle.std.specs.Prelude.{◌≡◌, ℕ, ◌≤◌, List, [], length, slice_index_or}
use Rattle.watch_lists.specs.declared.lists.Watch.{Watch}

-- the lists behind those in use are empty
pub record AreSpare (lists : List (List Watch)) (used : ℕ) : Type 0 where
  pub within : used ≤ length lists
  pub spare : (k : ℕ) → used ≤ k → slice_index_or lists k [] ≡ []
