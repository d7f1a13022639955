-- What a loop of reads does to the bytes that a reader has left, where it tells them.
use Rattle.std.specs.Prelude.{◌≡◌, ℕ, ◌≤◌, ◌⊎◌, List, ◌++◌, length, Option}
use Rattle.std.specs.Io.KnownBytes.{Consumes, IsAtEnd}

-- The bytes that the reader gave stand behind the old ones.
abbrev pub Gets : Option (List ℕ) → Option (List ℕ) → List ℕ → List ℕ → Type 0
Gets left rest old new = (got : List ℕ) × (new ≡ old ++ got) × Consumes left rest got

-- There are as many bytes as there may be, or none is left.
abbrev pub IsDone : Option (List ℕ) → ℕ → List ℕ → Type 0
IsDone rest most bytes = (most ≤ length bytes) ⊎ IsAtEnd rest
