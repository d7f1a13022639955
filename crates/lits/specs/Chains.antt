-- How a set finds its literals: by chains of places, one for each slot, over which the literals' codes are spread.
-- A place is named by its number and 1, and 0 ends a chain.
use Rattle.std.specs.Prelude.{◌≡◌, ℕ, ◌+◌, ◌*◌, ◌/◌, ◌%◌, ◌^◌, ◌≤◌, ◌<◌, List, Some, length, nat_le, slice_index, if◌then◌else◌}
use Rattle.std.specs.List.{slice_get}
use Rattle.lits.specs.declared.chains.TheConstants.{FEW}

-- the slot of a code among so many: the code times 2 to the 64 by the golden ratio, scaled from 2 to the 64 down to them
unfoldable pub slot_of : ℕ → ℕ → ℕ
slot_of code count = (code * 11400714819323198485 % 2 ^ 64) * count / 2 ^ 64

-- the last place of the code's chain, unless an earlier list left it behind
abbrev pub first_of : List ℕ → List ℕ → ℕ → ℕ
first_of heads links code =
    let head = slice_index heads (slot_of code (length heads)) in
    if nat_le head (length links) then head else 0

-- the chain that begins at `name` comes to the place
pub data Leads (links : List ℕ) (place : ℕ) : ℕ → Type 0 where
  here : (name : ℕ) → name ≡ place + 1 → Leads links place name
  there : (name i : ℕ) → name ≡ i + 1 → i < length links → Leads links place (slice_index links i) → Leads links place name

-- each literal of the list is on the chain of its code, and chains go back
pub record IsIndex {L : Type 0} (code : L → ℕ) (heads links : List ℕ) (lits : List L) : Type 0 where
  pub each : length links ≡ length lits
  pub back : (i : ℕ) → slice_index links i ≤ i
  pub finds : (place : ℕ) (x : L) → slice_get lits place ≡ Some x → Leads links place (first_of heads links (code x))

-- more than a few literals have an index
abbrev pub IsReady : {L : Type 0} → (L → ℕ) → List ℕ → List ℕ → List L → Type 0
IsReady code heads links lits = FEW < length lits → IsIndex code heads links lits
