-- The text of a circuit in the binary form of AIGER (A. Biere, The AIGER And-Inverter Graph Format, 2007; AIGER 1.9, 2011),
-- without comment. It is written from the circuit alone, and knows nothing of how files are read.
use Rattle.std.specs.Prelude.{◌≡◌, ℕ, zero, suc, ◌+◌, ◌-◌, ◌*◌, ◌/◌, ◌%◌, ◌<◌, ◌≤◌, ⊤, nat_lt, List, [], ◌∷◌, ◌++◌, length, if◌then◌else◌}
use Rattle.std.specs.List.{flat_map, range_with_len}
use Rattle.netlist.specs.declared.gate.And.{And}
use Rattle.netlist.specs.Circuit.{Aig}
use Rattle.circuit_text.specs.Lines.{header_line, literal_line}
use Rattle.circuit_text.specs.Symbols.{symbols_text}

-- Gates that define the variables from v on, in order. A gate's literal is above its first fanin, and that is no lower
-- than the second.
abbrev pub AreInSequence : ℕ → List And → Type 0
AreInSequence v [] = ⊤
AreInSequence v (g ∷ gs) =
    (g.var ≡ v) × (g.left < 2 * v) × (g.right ≤ g.left) × AreInSequence (v + 1) gs

-- AIGER's order, in which alone a circuit has a binary text: the inputs are the variables from 1 on, in order, and the
-- gates define those behind them.
pub record IsInSequence (c : Aig) : Type 0 where
  pub inputs : c.inputs ≡ range_with_len 1 (length c.inputs)
  pub gates : AreInSequence (length c.inputs + 1) c.gates

-- A number below 128 ^ (n + 1) in groups of 7 bits, the least first, one a byte, whose top bit says that more follow; it has
-- as few groups as can be.
abbrev pub groups : ℕ → ℕ → List ℕ
groups zero x = x ∷ []
groups (suc n) x = if nat_lt x 128 then x ∷ [] else (128 + x % 128) ∷ groups n (x / 128)

-- no number of n groups is as great
abbrev pub power_of : ℕ → ℕ
power_of zero = 1
power_of (suc n) = 128 * power_of n

-- the bytes of a number below 2 ^ 35: 300 is ac 02
unfoldable pub delta_text : ℕ → List ℕ
delta_text delta = groups 4 delta

-- how far the gate's literal is from its first fanin, and that from the second
abbrev pub gate_deltas : And → List ℕ
gate_deltas g = delta_text (2 * g.var - g.left) ++ delta_text (g.left - g.right)

-- The text of a circuit in AIGER's order: the header, whose M is I + A, then a line for each output and each constraint, then
-- the deltas of each gate, then the symbols. Inputs have no lines.
unfoldable pub binary_text : Aig → List ℕ
binary_text c =
    header_line 105 (length c.inputs + length c.gates) c
    ++ flat_map literal_line c.outputs
    ++ flat_map literal_line c.constraints
    ++ flat_map gate_deltas c.gates
    ++ symbols_text c.names
