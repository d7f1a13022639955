-- What the search for levels keeps: for each gate, by its place, its level, or 0 where that isn't known yet.
use Rattle.std.specs.Prelude.{◌≡◌, ◌≢◌, ◌⊎◌, ℕ, true, ◌+◌, ◌<◌, ◌≤◌, ◌==◌, Option, Some, None, Ok, List, [], ◌∷◌, length, slice_index, if◌then◌else◌}
use Rattle.std.specs.List.{slice_index_or}
use Rattle.netlist.specs.declared.gate.And.{And}
use Rattle.netlist.specs.Circuit.{Aig, IsCircuit, var_of, is_over, variables_in}
use Rattle.circuit_draft.specs.Levels.{level_of}
use Rattle.circuit_draft.specs.Draft.{finished}
use Rattle.circuit_draft.specs.declared.climb.Fanin.{Fanin}
use Rattle.circuit_draft.specs.declared.climb.Fanin.TheVariants as fanin
use Rattle.circuit_draft.specs.declared.climb.Step.{Step}
use Rattle.circuit_draft.specs.declared.climb.Step.TheVariants as step

-- the gate at a place
abbrev pub gate_at : Aig → ℕ → And
gate_at c p = slice_index_or c.gates p (record { var = 0; left = 0; right = 0 })

-- how many levels aren't known yet
abbrev pub open_in : List ℕ → ℕ
open_in [] = 0
open_in (l ∷ ls) = (if l == 0 then 1 else 0) + open_in ls

-- each level that is known is the gate's, and there are no more of them than gates whose level is known
pub record AreLevels (c : Aig) (levels : List ℕ) : Type 0 where
  pub count : length levels ≡ length c.gates
  pub known : (p : ℕ) → p < length c.gates → slice_index levels p ≢ 0
      → level_of c (gate_at c p).var ≡ Some (slice_index levels p)
  pub low : (p : ℕ) → p < length c.gates → slice_index levels p ≢ 0
      → slice_index levels p + open_in levels ≤ length c.gates

-- no level is forgotten
abbrev pub Keeps : List ℕ → List ℕ → Type 0
Keeps old new = (p : ℕ) → slice_index old p ≢ 0 → slice_index new p ≢ 0

-- the gate at place p uses the gate at place q
abbrev pub Uses : Aig → ℕ → ℕ → Type 0
Uses c p q =
    (var_of (gate_at c p).left ≡ (gate_at c q).var) ⊎ (var_of (gate_at c p).right ≡ (gate_at c q).var)

-- each fanin is the constant, an input or the variable of some gate
pub record AreDefined (c : Aig) : Type 0 where
  pub left : (p : ℕ) → p < length c.gates → is_over (variables_in c) (gate_at c p).left ≡ true
  pub right : (p : ℕ) → p < length c.gates → is_over (variables_in c) (gate_at c p).right ≡ true

-- a gate at this place, without a level so far
pub record IsOpen (c : Aig) (levels : List ℕ) (p : ℕ) : Type 0 where
  pub within : p < length c.gates
  pub unknown : slice_index levels p ≡ 0

-- what is known of a fanin: its level, or the gate whose level is to be found first
abbrev pub IsFanin : Aig → List ℕ → ℕ → Fanin → Type 0
IsFanin c levels lit (fanin.At l) =
    (level_of c (var_of lit) ≡ Some l) × (l + open_in levels ≤ length c.gates)
IsFanin c levels lit (fanin.Gate p) = IsOpen c levels p × (var_of lit ≡ (gate_at c p).var)

-- what is known of the gate at place p
abbrev pub IsStep : Aig → List ℕ → ℕ → Step → Type 0
IsStep c levels p (step.At l) = (level_of c (gate_at c p).var ≡ Some l) × (l ≢ 0) × (l + open_in levels ≤ length c.gates + 1)
IsStep c levels p (step.First q) = IsOpen c levels q × Uses c p q

-- each gate has this level
pub record AreAllLevels (c : Aig) (levels : List ℕ) : Type 0 where
  pub count : length levels ≡ length c.gates
  pub each : (p : ℕ) → p < length c.gates → level_of c (gate_at c p).var ≡ Some (slice_index levels p)

-- the draft with these gates, where there are some, and else with its own
abbrev pub with_order : Aig → Option (List And) → Aig
with_order c None = c
with_order c (Some gates) = record c { gates = gates }

-- the circuit that a draft becomes
pub record IsFinished (c circuit : Aig) : Type 0 where
  pub is_circuit : IsCircuit circuit
  pub finished : finished c ≡ Ok circuit
