-- The names of a circuit's inputs and outputs.
use Rattle.std.specs.Prelude.{◌≡◌, ℕ, true, None, length, replicate}
use Rattle.std.specs.List.{list_all}
use Rattle.symbol_names.specs.declared.names.Names.{Names}
use Rattle.symbol_names.specs.NameList.{is_name}

-- so many inputs and outputs without a name
abbrev pub unnamed : ℕ → ℕ → Names
unnamed inputs outputs = record { inputs = replicate inputs None; outputs = replicate outputs None }

-- one place for each of so many inputs and outputs, and at each a name or none
pub record AreNames (inputs outputs : ℕ) (names : Names) : Type 0 where
  pub input_places : length names.inputs ≡ inputs
  pub output_places : length names.outputs ≡ outputs
  pub of_inputs : list_all is_name names.inputs ≡ true
  pub of_outputs : list_all is_name names.outputs ≡ true
