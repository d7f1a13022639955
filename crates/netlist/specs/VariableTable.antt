-- What the table of a circuit's variables keeps.
use Rattle.std.specs.Prelude.{◌≡◌, ℕ, ◌<◌, ◌==◌, nat_le, true, Option, None, Some, List, ◌∷◌, ◌++◌, length, slice_index, if◌then◌else◌}
use Rattle.std.specs.List.{list_all}
use Rattle.lits.specs.Clause.{has, no_repeat}
use Rattle.netlist.specs.declared.gate.And.{And}
use Rattle.netlist.specs.Place.{place_of}
use Rattle.netlist.specs.Circuit.{gate_vars, most}

-- by variable, the variable's place, or 0 where the circuit hasn't the variable; and how many variables there are
pub record Places : Type 0 where
  pub by_variable : List ℕ
  pub count : ℕ

-- the place of a variable; the constant, variable 0, has place 0
abbrev pub place_in : Places → ℕ → Option ℕ
place_in t v =
    if v == 0 then Some 0
    else (if slice_index t.by_variable v == 0 then None else Some (slice_index t.by_variable v))

-- the table finds exactly the variables of the list, each at its place
pub record IsTable (t : Places) (vars : List ℕ) : Type 0 where
  pub finds : (v : ℕ) → place_in t v ≡ place_of (λ x. x == v) vars
  pub count : t.count ≡ length vars

-- the variables of the constant, the inputs and the gates differ, and each is in range
pub record AreVariables (inputs : List ℕ) (gates : List And) : Type 0 where
  pub distinct : no_repeat ◌==◌ (0 ∷ (inputs ++ gate_vars gates)) ≡ true
  pub range : list_all (λ v. nat_le v most) (0 ∷ (inputs ++ gate_vars gates)) ≡ true

-- the table reaches as far as each of these variables
abbrev pub HasRoom : Places → List ℕ → Type 0
HasRoom t vars = (v : ℕ) → has ◌==◌ vars v ≡ true → v < length t.by_variable
