-- Sizes of a pair of circuits, and the place of a gate.
use Rattle.std.specs.Prelude.{◌≡◌, ℕ, ◌+◌, ◌≤◌, Bool, not, Option, None, Some, length, slice_index}
use Rattle.lits.specs.declared.node.Side.{Side}
use Rattle.lits.specs.declared.node.Side.TheVariants.{A, B}
use Rattle.lits.specs.declared.node.Node.{Node}
use Rattle.lits.specs.declared.node.Node.TheVariants.{Const, Input, Gate}
use Rattle.lits.specs.declared.literal.Lit.{Lit}
use Rattle.netlist.specs.declared.gate.Source.{Source}
use Rattle.netlist.specs.declared.gate.Source.TheVariants as source
use Rattle.netlist.specs.declared.pair.Sizes.{Sizes}
use Rattle.netlist.specs.Circuit.{gate_vars, most}
use Rattle.netlist.specs.Net.{AigPair, IsNet, circuit_of}

-- the numbers of inputs, gates and outputs of a net, and their limits
pub record AreSizes (net : AigPair) (s : Sizes) : Type 0 where
  pub net_is : IsNet net
  pub inputs : s.inputs ≡ length net.a.inputs
  pub gates_a : s.gates_a ≡ length net.a.gates
  pub gates_b : s.gates_b ≡ length net.b.gates
  pub outputs : s.outputs ≡ length net.a.outputs
  pub other_outputs : s.outputs ≡ length net.b.outputs
  pub few_a : s.inputs + s.gates_a ≤ most
  pub few_b : s.inputs + s.gates_b ≤ most
  pub few_outputs : s.outputs ≤ most

-- the gate's index, where the source is a gate
abbrev pub gate_from : Option Source → Option ℕ
gate_from (Some (source.Gate g)) = Some g
gate_from _ = None

-- the literal of a variable with this source
abbrev pub lit_from : Side → ℕ → Bool → Option Source → Option Lit
lit_from side v negated None = None
lit_from side v negated (Some source.Constant) = Some (record { node = Const; neg = not negated })
lit_from side v negated (Some (source.Input k)) = Some (record { node = Input k; neg = negated })
lit_from side v negated (Some (source.Gate g)) = Some (record { node = Gate side v; neg = negated })

-- the node of the gate with an index
abbrev pub gate_node : AigPair → Side → ℕ → Node
gate_node net side index = Gate side (slice_index (gate_vars (circuit_of net side).gates) index)

-- the position of a side's first gate
abbrev pub first_gate : AigPair → Side → ℕ
first_gate net A = 1 + length net.a.inputs
first_gate net B = 1 + length net.a.inputs + length net.a.gates
