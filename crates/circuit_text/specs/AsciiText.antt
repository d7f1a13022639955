-- The text of a circuit in the ASCII form of AIGER (A. Biere, The AIGER And-Inverter Graph Format, 2007; AIGER 1.9, 2011),
-- without comment. It is written from the circuit alone, line by line, and knows nothing of how files are read.
use Rattle.std.specs.Prelude.{◌≡◌, ℕ, ◌*◌, ◌≤◌, nat_le, true, List, [], ◌∷◌, ◌++◌}
use Rattle.std.specs.List.{list_all, flat_map}
use Rattle.netlist.specs.declared.gate.And.{And}
use Rattle.netlist.specs.Circuit.{Aig, variables_in, most}
use Rattle.circuit_text.specs.Lines.{number_line, header_line, literal_line}
use Rattle.circuit_text.specs.Symbols.{symbols_text}

-- the line of an input, which is an even literal
abbrev pub input_line : ℕ → List ℕ
input_line v = number_line (2 * v ∷ [])

-- the line of a gate: its literal and its fanins
abbrev pub gate_line : And → List ℕ
gate_line g = number_line (2 * g.var ∷ g.left ∷ g.right ∷ [])

-- a number that may stand for M: no variable is greater, and readers take it
pub record IsBound (m : ℕ) (c : Aig) : Type 0 where
  pub covers : list_all (λ v. nat_le v m) (variables_in c) ≡ true
  pub range : m ≤ most

-- The header, then a line for each input, each output, each constraint and each gate, in the circuit's order, then the
-- symbols.
unfoldable pub ascii_text : ℕ → Aig → List ℕ
ascii_text m c =
    header_line 97 m c
    ++ flat_map input_line c.inputs
    ++ flat_map literal_line c.outputs
    ++ flat_map literal_line c.constraints
    ++ flat_map gate_line c.gates
    ++ symbols_text c.names
