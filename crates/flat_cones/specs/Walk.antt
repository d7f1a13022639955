-- A walk through a cone: the variables that it has found, in the order in which it came to them.
use Rattle.std.specs.Prelude.{◌≡◌, ℕ, ◌<◌, ◌≤◌, Bool, true, false, ◌==◌, ◌||◌, ◌-◌, None, Some, List, [], ◌++◌, length, slice_index_or}
use Rattle.std.specs.Option.{option_map_or}
use Rattle.std.specs.List.{list_any, IsDistinct}
use Rattle.lits.specs.Clause.{has}
use Rattle.lits.specs.Same.{same_node}
use Rattle.lits.specs.declared.node.Node.{Node}
use Rattle.lits.specs.declared.node.Node.TheVariants.{Const}
use Rattle.lits.specs.declared.literal.Lit.{Lit}
use Rattle.lits.specs.Dimacs.{DimacsLiteral}
use Rattle.netlist.specs.declared.gate.Definition.{Definition}
use Rattle.netlist.specs.Net.{AigPair, defined_by}
use Rattle.netlist.specs.Miter.{variables_of, variable_of, axioms_of, gate_clauses, kept}
use Rattle.flat_cones.specs.Spots.{Table, is_marked, number_at}
use Rattle.flat_cones.specs.declared.walk.Walk.{Walk}

-- the node's variable is marked
abbrev pub is_found : AigPair → Table → Node → Bool
is_found net t n = option_map_or (is_marked t) (variable_of net n) false

-- it is the CNF variable of some node
abbrev pub IsVariable : AigPair → ℕ → Type 0
IsVariable net v = (1 ≤ v) × (v ≤ length (variables_of net))

-- the node of a variable
abbrev pub node_by : AigPair → ℕ → Node
node_by net v = slice_index_or (variables_of net) (v - 1) Const

-- the literal of a variable's literal
abbrev pub lit_by : AigPair → DimacsLiteral → Lit
lit_by net d = record { node = node_by net d.var; neg = d.neg }

-- the variable is a lower one
abbrev pub IsLower : ℕ → DimacsLiteral → Type 0
IsLower v d = (1 ≤ d.var) × (d.var < v)

-- the variable is that of a gate, and these are its fanins
pub record IsGateOf (net : AigPair) (v : ℕ) (left right : DimacsLiteral) : Type 0 where
  pub gate : Definition
  pub node : gate.node ≡ node_by net v
  pub left_is : gate.left ≡ lit_by net left
  pub right_is : gate.right ≡ lit_by net right
  pub left_lower : IsLower v left
  pub right_lower : IsLower v right
  pub defined : defined_by net (node_by net v) ≡ Some gate
  pub axioms : axioms_of net (node_by net v) ≡ kept (gate_clauses gate)

-- the variables found are those that are marked, each once, and none has a number
pub record IsWalk (net : AigPair) (w : Walk) : Type 0 where
  pub once : IsDistinct ◌==◌ w.found.items
  pub marked : (v : ℕ) → is_marked w.spots v ≡ list_any (λ y. v == y) w.found.items
  pub there : (v : ℕ) → list_any (λ y. v == y) w.found.items ≡ true → IsVariable net v
  pub unnumbered : (v : ℕ) → number_at w.spots v ≡ None

-- these nodes are found now too; what was found stays first
pub record Finds (net : AigPair) (old : Walk) (nodes : List Node) (new : Walk) : Type 0 where
  pub walk : IsWalk net new
  pub found : (n : Node) → is_found net new.spots n ≡ (is_found net old.spots n || has same_node nodes n)
  pub rest : List ℕ
  pub grows : new.found.items ≡ old.found.items ++ rest

-- these nodes are found, and none else
pub record BeginsAt (net : AigPair) (nodes : List Node) (w : Walk) : Type 0 where
  pub walk : IsWalk net w
  pub found : (n : Node) → is_found net w.spots n ≡ has same_node nodes n

-- no variable is marked
pub record IsFresh (w : Walk) : Type 0 where
  pub none : (v : ℕ) → is_marked w.spots v ≡ false
  pub empty : w.found.items ≡ []
