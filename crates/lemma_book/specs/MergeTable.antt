-- Where the merges of gates are found: by circuit and AIGER variable, in a slot each.
use Rattle.std.specs.Prelude.{◌≡◌, ℕ, zero, suc, ◌<◌, ◌≤◌, Option, None, Some, List, length, slice_index_or, if◌then◌else◌}
use Rattle.std.specs.Option.{option_or}
use Rattle.lits.specs.Same.{same_node}
use Rattle.lits.specs.declared.node.Side.{Side}
use Rattle.lits.specs.declared.node.Side.TheVariants.{A, B}
use Rattle.lits.specs.declared.node.Node.TheVariants.{Gate}

-- the slots of both circuits
pub record Table : Type 0 where
  pub a : List ℕ
  pub b : List ℕ

abbrev pub slots_of : Table → Side → List ℕ
slots_of t A = t.a
slots_of t B = t.b

-- a slot holds one more than a place, and 0 where there is none
abbrev pub place_held : ℕ → Option ℕ
place_held zero = None
place_held (suc k) = Some k

-- what stands behind the last slot holds none
abbrev pub place_in : List ℕ → ℕ → Option ℕ
place_in slots var = place_held (slice_index_or slots var 0)

abbrev pub place_at : Table → Side → ℕ → Option ℕ
place_at t side var = place_in (slots_of t side) var

-- the gate has a slot
abbrev pub HasSlot : Table → Side → ℕ → Type 0
HasSlot t side var = var < length (slots_of t side)

-- the same places are found, and there may be more slots
pub record IsWidened (old new : Table) : Type 0 where
  pub places : (side : Side) (var : ℕ) → place_at new side var ≡ place_at old side var
  pub slots : (side : Side) → length (slots_of old side) ≤ length (slots_of new side)

-- the gate is found at the place, unless it was found at another one before, and all others where they were
pub record NotesGate (old : Table) (side : Side) (var place : ℕ) (new : Table) : Type 0 where
  pub places : (s : Side) (v : ℕ) → place_at new s v
      ≡ option_or (place_at old s v) (if same_node (Gate side var) (Gate s v) then Some place else None)
  pub slots : (s : Side) → length (slots_of new s) ≡ length (slots_of old s)
