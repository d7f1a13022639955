-- A pair of circuits over the same inputs, its nodes, their order and their values.
use Rattle.std.specs.Prelude.{◌≡◌, ◌≢◌, ℕ, ◌<◌, ◌==◌, Bool, true, false, not, Option, None, Some, List, ◌∷◌, ◌++◌, length, map, slice_get, if◌then◌else◌}
use Rattle.std.specs.List.{find, list_all, range_with_len, slice_index_or}
use Rattle.std.specs.Option.{option_map, option_map_or, unwrap_or}
use Rattle.lits.specs.declared.node.Side.{Side}
use Rattle.lits.specs.declared.node.Side.TheVariants.{A, B}
use Rattle.lits.specs.declared.node.Node.{Node}
use Rattle.lits.specs.declared.node.Node.TheVariants.{Const, Input, Gate, Xor}
use Rattle.lits.specs.declared.literal.Lit.{Lit}
use Rattle.lits.specs.Same.{same_node}
use Rattle.netlist.specs.declared.gate.And.{And}
use Rattle.netlist.specs.declared.gate.Definition.{Definition}
use Rattle.netlist.specs.declared.gate.Placed.{Placed}
use Rattle.netlist.specs.declared.gate.Fanins.{Fanins}
use Rattle.netlist.specs.Place.{place_of}
use Rattle.netlist.specs.Circuit.{var_of, is_negated, is_over, Aig, IsCircuit, variables_in, values_in, value_in, output_value}

-- the two circuits
pub record AigPair : Type 0 where
  pub a : Aig
  pub b : Aig

-- they are circuits with equal numbers of inputs and of outputs
pub record IsNet (net : AigPair) : Type 0 where
  pub a : IsCircuit net.a
  pub b : IsCircuit net.b
  pub inputs : length net.a.inputs ≡ length net.b.inputs
  pub outputs : length net.a.outputs ≡ length net.b.outputs

abbrev pub circuit_of : AigPair → Side → Aig
circuit_of net A = net.a
circuit_of net B = net.b

-- the node of a variable: input k of both circuits is one node, and a gate is named by its side
abbrev pub node_of : Side → Aig → ℕ → Node
node_of side c v = if v == 0 then Const else option_map_or Input (place_of (λ x. x == v) c.inputs) (Gate side v)

-- the node's literal that an AIGER literal means; variable 0 is the constant false, the negation of `Const`
abbrev pub lit_named : Side → Aig → ℕ → Lit
lit_named side c lit = record {
  node = node_of side c (var_of lit);
  neg = if var_of lit == 0 then not (is_negated lit) else is_negated lit;
}

-- the same, where the circuit has the variable
abbrev pub lit_of : AigPair → Side → ℕ → Option Lit
lit_of net side lit =
    if is_over (variables_in (circuit_of net side)) lit then Some (lit_named side (circuit_of net side) lit) else None

-- the literal of output j of one side
abbrev pub output_of : AigPair → Side → ℕ → Option Lit
output_of net side j = option_map (lit_named side (circuit_of net side)) (slice_get (circuit_of net side).outputs j)

-- the literals of one side's constraints, in order
abbrev pub bounds_on : AigPair → Side → List Lit
bounds_on net side = map (lit_named side (circuit_of net side)) (circuit_of net side).constraints

-- the literal of constraint k of one side
abbrev pub bound_of : AigPair → Side → ℕ → Option Lit
bound_of net side k = slice_get (bounds_on net side) k

-- the literals of all constraints: those of A in order, then those of B
abbrev pub bounds_of : AigPair → List Lit
bounds_of net = bounds_on net A ++ bounds_on net B

-- a gate with its fanins as literals
abbrev pub definition_of : Side → Aig → And → Definition
definition_of side c g = record {
  node = Gate side g.var;
  left = lit_named side c g.left;
  right = lit_named side c g.right;
}

-- the gates of A in order, then those of B
abbrev pub definitions : AigPair → List Definition
definitions net = map (definition_of A net.a) net.a.gates ++ map (definition_of B net.b) net.b.gates

-- the gate of a variable
abbrev pub gate_at : AigPair → Side → ℕ → Option And
gate_at net side v = find (λ g. g.var == v) (circuit_of net side).gates

-- the nodes in order of position: the constant, the inputs, the gates of A, the gates of B
abbrev pub nodes_of : AigPair → List Node
nodes_of net =
    Const ∷ (map Input (range_with_len 0 (length net.a.inputs)) ++ map (λ d. d.node) (definitions net))

-- the node at a position
abbrev pub node_at : AigPair → ℕ → Node
node_at net p = slice_index_or (nodes_of net) p Const

-- the place of a node in that order; none for an XOR and for a node that isn't there
abbrev pub position_of : AigPair → Node → Option ℕ
position_of net node = place_of (λ n. same_node n node) (nodes_of net)

-- an XOR with its two outputs as literals
abbrev pub difference : ℕ → Option Lit → Option Lit → Option Definition
difference j (Some a) (Some b) = Some (record { node = Xor j; left = a; right = b })
difference j _ _ = None

-- what defines a node; none for the constant, which is true, for an input, which is free, and for a node that isn't there
abbrev pub defined_by : AigPair → Node → Option Definition
defined_by net Const = None
defined_by net (Input k) = None
defined_by net (Gate side v) = option_map (definition_of side (circuit_of net side)) (gate_at net side v)
defined_by net (Xor j) = difference j (output_of net A j) (output_of net B j)

-- a literal by the position of its node; each literal of a circuit has one
abbrev pub placed : AigPair → Lit → Placed
placed net l = record { position = unwrap_or (position_of net l.node) 0; neg = l.neg }

abbrev pub fanins_of : AigPair → Definition → Fanins
fanins_of net d = record { left = placed net d.left; right = placed net d.right }

-- the fanins of all gates, in the order of positions
abbrev pub all_fanins : AigPair → List Fanins
all_fanins net = map (fanins_of net) (definitions net)

-- the fanins of gate k, the gates counted from 0 in the order of positions
abbrev pub fanins_at : AigPair → ℕ → Option Fanins
fanins_at net k = option_map (fanins_of net) (slice_get (definitions net) k)

abbrev pub differs : Bool → Bool → Bool
differs x y = if x then not y else y

-- the nodes' values for the inputs' truth values: a gate has its value in its own circuit, and an XOR is true exactly
-- where its two outputs differ
abbrev pub value_of : AigPair → List Bool → Node → Bool
value_of net bits Const = true
value_of net bits (Input k) = slice_index_or bits k false
value_of net bits (Gate A v) = values_in net.a bits v
value_of net bits (Gate B v) = values_in net.b bits v
value_of net bits (Xor j) = differs (output_value net.a bits j) (output_value net.b bits j)

-- the value of a literal, where v gives each node's value
abbrev pub lit_holds : (Node → Bool) → Lit → Bool
lit_holds v l = if l.neg then not (v l.node) else v l.node

-- each constraint of a circuit is true for the inputs' truth values
abbrev pub meets_constraints : Aig → List Bool → Bool
meets_constraints c bits = list_all (value_in c bits) c.constraints

-- An input is admitted: it has one truth value for each of the circuits' inputs, and each constraint of both circuits is
-- true on it (invariant constraints of AIGER 1.9).
pub record IsAdmitted (net : AigPair) (bits : List Bool) : Type 0 where
  pub whole : length bits ≡ length net.a.inputs
  pub of_a : meets_constraints net.a bits ≡ true
  pub of_b : meets_constraints net.b bits ≡ true

-- output j is there, and differs on an admitted input
pub record DiffersOn (net : AigPair) (j : ℕ) (bits : List Bool) : Type 0 where
  pub admitted : IsAdmitted net bits
  pub within : j < length net.a.outputs
  pub apart : output_value net.a bits j ≢ output_value net.b bits j

-- output j agrees: on each admitted input both circuits give it one value
abbrev pub AgreesOn : AigPair → ℕ → Type 0
AgreesOn net j = (bits : List Bool) → IsAdmitted net bits → output_value net.a bits j ≡ output_value net.b bits j

-- each output agrees
abbrev pub Agree : AigPair → Type 0
Agree net = (j : ℕ) → j < length net.a.outputs → AgreesOn net j

-- some output differs on some admitted input
pub record Differ (net : AigPair) : Type 0 where
  pub output : ℕ
  pub bits : List Bool
  pub differs : DiffersOn net output bits
