-- How a circuit is built gate by gate as an and-inverter graph in AIGER's order (A. Biere, The AIGER And-Inverter Graph
-- Format, 2007), and what the usual constructions of logic design add to it. Nothing is folded: each AND is a gate.
use Rattle.std.specs.Prelude.{◌≡◌, ℕ, ◌+◌, ◌-◌, ◌*◌, ◌%◌, ◌≤◌, ◌==◌, max, min, List, [], ◌∷◌, ◌++◌, length, if◌then◌else◌}
use Rattle.std.specs.List.{range_with_len}
use Rattle.netlist.specs.declared.gate.And.{And}
use Rattle.netlist.specs.Circuit.{Aig, IsCircuit, most, plain}
use Rattle.circuit_text.specs.BinaryText.{AreInSequence, IsInSequence}

-- A circuit that grows: how many inputs it has, and its gates so far. The inputs are the variables from 1 on.
pub record Draft : Type 0 where
  pub inputs : ℕ
  pub gates : List And

-- the inputs alone
abbrev pub start : ℕ → Draft
start inputs = record { inputs = inputs; gates = [] }

-- the literal of input k, from 0
abbrev pub input_literal : ℕ → ℕ
input_literal k = 2 * (k + 1)

-- the variable of the next gate
abbrev pub next : Draft → ℕ
next d = d.inputs + length d.gates + 1

-- the literal with its last bit flipped
abbrev pub negated : ℕ → ℕ
negated x = if x % 2 == 0 then x + 1 else x - 1

-- ---- steps, each of which gives a value and the draft after it

abbrev pub done : {A : Type 0} → A → Draft → A × Draft
done x d = (x, d)

infixl 10 ◌>>=◌
abbrev pub ◌>>=◌ : {A B : Type 0} → (Draft → A × Draft) → (A → Draft → B × Draft) → Draft → B × Draft
(step >>= rest) d = rest (step d).0 (step d).1

-- A gate with the next variable: the greater literal is its first fanin.
unfoldable pub and_gate : ℕ → ℕ → Draft → ℕ × Draft
and_gate x y d = (2 * next d, record d { gates = d.gates ++ record { var = next d; left = max x y; right = min x y } ∷ [] })

unfoldable pub or_gate : ℕ → ℕ → Draft → ℕ × Draft
or_gate x y = do
  z ← and_gate (negated x) (negated y)
  done (negated z)

unfoldable pub xor_gate : ℕ → ℕ → Draft → ℕ × Draft
xor_gate x y = do
  p ← and_gate x (negated y)
  q ← and_gate (negated x) y
  or_gate p q

-- x where s is true, else y
unfoldable pub mux_gate : ℕ → ℕ → ℕ → Draft → ℕ × Draft
mux_gate s x y = do
  p ← and_gate s x
  q ← and_gate (negated s) y
  or_gate p q

-- the sum and the carry of two bits and the carry before them
unfoldable pub full_adder : ℕ → ℕ → ℕ → Draft → (ℕ × ℕ) × Draft
full_adder x y c = do
  t ← xor_gate x y
  s ← xor_gate t c
  u ← and_gate x y
  v ← and_gate t c
  carry ← or_gate u v
  done (s, carry)

-- ---- circuits

-- the circuit with these outputs, without constraints and names
abbrev pub circuit_of : List ℕ × Draft → Aig
circuit_of p = plain (range_with_len 1 p.1.inputs) p.1.gates p.0

-- the circuit that these steps build over so many inputs
abbrev pub built : ℕ → (Draft → List ℕ × Draft) → Aig
built inputs steps = circuit_of (steps (start inputs))

-- each gate defines the next variable from earlier ones, and there are not too many
pub record IsDraft (d : Draft) : Type 0 where
  pub sequence : AreInSequence (d.inputs + 1) d.gates
  pub range : d.inputs + length d.gates ≤ most

-- the circuit has both texts: it is one of so many inputs, in AIGER's order
pub record IsWritable (inputs : ℕ) (c : Aig) : Type 0 where
  pub circuit : IsCircuit c
  pub sequence : IsInSequence c
  pub count : length c.inputs ≡ inputs
  pub range : inputs + length c.gates ≤ most
