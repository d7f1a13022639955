-- A table of gates by two codes.
use Rattle.std.specs.Prelude.{◌≡◌, ℕ, ◌≤◌, Option, None, Some, List, [], ◌∷◌, ◌++◌, map, slice_get, ◌⊎◌}
use Rattle.std.specs.List.{AllByRecursion}
use Rattle.strash_pass.specs.declared.twins.Roots.{Roots}

-- a gate by the codes of its fanins' roots, the lesser one first
pub record Noted : Type 0 where
  pub low : ℕ
  pub high : ℕ
  pub gate : ℕ

-- the gates in the order in which they were noted
pub record Table : Type 0 where
  pub notes : List Noted

abbrev pub noted_of : Roots × ℕ → Noted
noted_of e = record { low = e.0.low; high = e.0.high; gate = e.1 }

abbrev pub table_of : List (Roots × ℕ) → Table
table_of entries = record { notes = map noted_of entries }

-- it is these two codes, in either order
abbrev pub IsPairOf : Roots → ℕ → ℕ → Type 0
IsPairOf r a b = ((r.low ≡ a) × (r.high ≡ b)) ⊎ ((r.low ≡ b) × (r.high ≡ a))

-- the lesser code comes first
abbrev pub AreOrdered : List (Roots × ℕ) → Type 0
AreOrdered entries = AllByRecursion (λ e. e.0.low ≤ e.0.high) entries

-- the note has these codes, in either order
abbrev pub HasCodes : Noted → ℕ → ℕ → Type 0
HasCodes n a b = ((n.low ≡ a) × (n.high ≡ b)) ⊎ ((n.low ≡ b) × (n.high ≡ a))

-- a note with these codes, in either order
pub record HasNote (notes : List Noted) (a b : ℕ) : Type 0 where
  pub place : ℕ
  pub note : Noted
  pub at : slice_get notes place ≡ Some note
  pub codes : HasCodes note a b

-- an earlier gate is found, and nothing changes; or none was noted with these codes, and this one is
abbrev pub IsTwinOrNoted : Table → ℕ → ℕ → ℕ → Table → Option ℕ → Type 0
IsTwinOrNoted old a b gate new (Some twin) = (h : HasNote old.notes a b) × (h.note.gate ≡ twin) × (new ≡ old)
IsTwinOrNoted old a b gate new None =
    (HasNote old.notes a b → ⊥) × (n : Noted) × HasCodes n a b × (n.gate ≡ gate)
    × (new ≡ record { notes = old.notes ++ n ∷ [] })
