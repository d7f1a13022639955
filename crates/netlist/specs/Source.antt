-- What gives a variable of a circuit its value.
use Rattle.std.specs.Prelude.{◌≡◌, ℕ, ◌==◌, ◌-◌, ◌<◌, nat_le, ⊤, length, Bool, true, false, Option, None, Some, List, ◌∷◌, ◌++◌, if◌then◌else◌}
use Rattle.std.specs.List.{slice_index_or}
use Rattle.std.specs.Option.{option_map}
use Rattle.lits.specs.Clause.{has}
use Rattle.netlist.specs.declared.gate.Source.{Source}
use Rattle.netlist.specs.declared.gate.Source.TheVariants.{Constant, Input, Gate}
use Rattle.netlist.specs.Place.{place_of}
use Rattle.netlist.specs.Circuit.{Aig, IsCircuit, variables_in, gate_vars, run, given}
use Rattle.netlist.specs.VariableTable.{Places, IsTable}
use Rattle.netlist.specs.declared.gate.And.{And}

abbrev pub input_or : Option ℕ → Option ℕ → Option Source
input_or (Some k) gate = Some (Input k)
input_or None gate = option_map Gate gate

-- the constant, an input or a gate; none where the circuit hasn't the variable
abbrev pub source_of : Aig → ℕ → Option Source
source_of c v =
    if v == 0 then Some Constant
    else input_or (place_of (λ x. x == v) c.inputs) (place_of (λ g. g.var == v) c.gates)

-- the source at a place among the variables of a circuit with so many inputs
abbrev pub source_at : ℕ → ℕ → Source
source_at inputs place =
    if place == 0 then Constant
    else (if nat_le place inputs then Input (place - 1) else Gate (place - 1 - inputs))

-- the source's index is one of the circuit's
abbrev pub IsWithin : Aig → Source → Type 0
IsWithin c Constant = ⊤
IsWithin c (Input k) = k < length c.inputs
IsWithin c (Gate g) = g < length c.gates

-- the value that a source has, where the inputs' and the gates' values are in these lists
abbrev pub value_at : List Bool → List Bool → Option Source → Bool
value_at inputs gates (Some (Input k)) = slice_index_or inputs k false
value_at inputs gates (Some (Gate g)) = slice_index_or gates g false
value_at inputs gates _ = false

-- the variable's value, read in these lists
abbrev pub read_in : Aig → List Bool → List Bool → ℕ → Bool
read_in c inputs gates v = value_at inputs gates (source_of c v)

-- the first i gates are computed: each variable known there has its value
pub record IsComputed (c : Aig) (inputs gates : List Bool) (first : List And) : Type 0 where
  pub known : (v : ℕ) → has ◌==◌ (0 ∷ (c.inputs ++ gate_vars first)) v ≡ true
      → read_in c inputs gates v ≡ run first (given c.inputs inputs) v

-- the parts make a circuit, and the table finds its variables
pub record IsIndexed (c : Aig) (t : Places) : Type 0 where
  pub circuit : IsCircuit c
  pub table : IsTable t (variables_in c)
