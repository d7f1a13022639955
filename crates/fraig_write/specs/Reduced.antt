-- The reduced circuit of a book: what is left of a circuit where each literal gives way to its root and only what its
-- outputs and constraints rest on stays, as in a functionally reduced and-inverter graph (FRAIG; Mishchenko, Chatterjee,
-- Jiang and Brayton 2005). It is said of circuit A of a net alone, since A's nodes have no root on the other side.
use Rattle.std.specs.Prelude.{◌≡◌, ℕ, ◌+◌, ◌*◌, ◌<◌, ◌==◌, ◌&&◌, Bool, not, max, min, List, [], ◌∷◌, ◌++◌, length, map, filter, slice_index, if◌then◌else◌}
use Rattle.std.specs.List.{find, range_with_len}
use Rattle.std.specs.Option.{option_map_or, unwrap_or}
use Rattle.lits.specs.declared.node.Side.TheVariants.{A}
use Rattle.lits.specs.declared.node.Node.{Node}
use Rattle.lits.specs.declared.node.Node.TheVariants.{Const, Input, Gate}
use Rattle.lits.specs.declared.literal.Lit.{Lit}
use Rattle.lits.specs.Same.{same_node, same_lit}
use Rattle.netlist.specs.declared.gate.And.{And}
use Rattle.netlist.specs.Place.{place_of}
use Rattle.netlist.specs.Circuit.{Aig, value_in, output_value}
use Rattle.netlist.specs.Net.{lit_named}
use Rattle.netlist.specs.Miter.{positive}
use Rattle.lemma_book.specs.declared.entry.Entry.{Entry}
use Rattle.lemma_book.specs.Root.{root_of}
use Rattle.lemma_book.specs.Cone.{IsReach, nodes_in}

-- ---- which gates stay

-- the fanins of a gate of A, as literals; no other node has any
abbrev pub fanins_in : Aig → Node → List Lit
fanins_in a (Gate A v) =
    option_map_or (λ g. lit_named A a g.left ∷ lit_named A a g.right ∷ []) (find (λ g. g.var == v) a.gates) []
fanins_in a n = []

-- the outputs and the constraints of A, as literals
abbrev pub ends_of : Aig → List Lit
ends_of a = map (lit_named A a) (a.outputs ++ a.constraints)

-- the nodes of the literals' roots
abbrev pub root_nodes : List Entry → List Lit → List Node
root_nodes entries lits = nodes_in (map (root_of entries) lits)

-- the nodes that are reached from the roots of outputs and constraints through the roots of fanins: the least set that has
-- the former and, with each node, the roots of its fanins
abbrev pub AreReached : Aig → List Entry → (Node → Bool) → Type 0
AreReached a entries reached =
    IsReach (λ n. root_nodes entries (fanins_in a n)) (root_nodes entries (ends_of a)) reached

-- the gate is its own root
abbrev pub is_own_root : List Entry → And → Bool
is_own_root entries g = same_lit (root_of entries (positive (Gate A g.var))) (positive (Gate A g.var))

-- the gates of A that are their own roots and are reached, in A's order
pub record AreStaying (a : Aig) (entries : List Entry) (staying : List And) : Type 0 where
  pub reached : Node → Bool
  pub are_reached : AreReached a entries reached
  pub gates : staying ≡ filter (λ g. is_own_root entries g && reached (Gate A g.var)) a.gates

-- ---- their new numbers

-- A node's new variable in a circuit of so many inputs, where these gates stay: input k has k + 1, and the gates are numbered
-- on behind the inputs.
abbrev pub new_variable : ℕ → List And → Node → ℕ
new_variable inputs staying (Input k) = k + 1
new_variable inputs staying (Gate side v) = inputs + 1 + unwrap_or (place_of (λ g. g.var == v) staying) 0
new_variable inputs staying n = 0

-- the AIGER literal of a literal by the new variables: variable 0 is false, and `Const` is true
abbrev pub renumbered : ℕ → List And → Lit → ℕ
renumbered inputs staying l =
    2 * new_variable inputs staying l.node + (if (if same_node l.node Const then not l.neg else l.neg) then 1 else 0)

-- what an AIGER literal of A becomes: its root, renumbered
abbrev pub root_renumbered : Aig → List Entry → List And → ℕ → ℕ
root_renumbered a entries staying lit = renumbered (length a.inputs) staying (root_of entries (lit_named A a lit))

-- what a gate becomes: each fanin becomes its root, the greater first
abbrev pub reduced_gate : Aig → List Entry → List And → And → And
reduced_gate a entries staying g =
    let left = root_renumbered a entries staying g.left in
    let right = root_renumbered a entries staying g.right in
    record { var = new_variable (length a.inputs) staying (Gate A g.var); left = max left right; right = min left right }

-- ---- the circuit

-- the circuit of the gates that stay, under A's names
abbrev pub reduced_to : Aig → List Entry → List And → Aig
reduced_to a entries staying = record {
  inputs = range_with_len 1 (length a.inputs);
  gates = map (reduced_gate a entries staying) staying;
  outputs = map (root_renumbered a entries staying) a.outputs;
  constraints = map (root_renumbered a entries staying) a.constraints;
  names = a.names;
}

-- the circuit is A reduced by the entries
pub record IsReducedCircuit (a : Aig) (entries : List Entry) (c : Aig) : Type 0 where
  pub staying : List And
  pub are_staying : AreStaying a entries staying
  pub circuit : c ≡ reduced_to a entries staying

-- ---- what it promises

-- the circuit has A's inputs in number, and the value of A at every output and at every constraint, on every input
pub record HasValuesOf (a c : Aig) : Type 0 where
  pub inputs : length c.inputs ≡ length a.inputs
  pub outputs : length c.outputs ≡ length a.outputs
  pub constraints : length c.constraints ≡ length a.constraints
  pub at_outputs : (bits : List Bool) → length bits ≡ length a.inputs
      → (j : ℕ) → j < length a.outputs → output_value c bits j ≡ output_value a bits j
  pub at_constraints : (bits : List Bool) → length bits ≡ length a.inputs
      → (k : ℕ) → k < length a.constraints
      → value_in c bits (slice_index c.constraints k) ≡ value_in a bits (slice_index a.constraints k)
