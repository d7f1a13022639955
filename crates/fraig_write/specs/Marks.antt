-- Marks of nodes by their positions, and what a walk over A's gates, from the last to the first, has marked.
use Rattle.std.specs.Prelude.{◌≡◌, ℕ, ◌≤◌, ◌==◌, ◌||◌, nat_lt, Bool, true, false, Some, List, length, slice_get, slice_index_or}
use Rattle.std.specs.List.{list_any}
use Rattle.std.specs.Option.{option_map_or}
use Rattle.lits.specs.Clause.{has}
use Rattle.lits.specs.Same.{same_node}
use Rattle.lits.specs.declared.node.Side.TheVariants.{A}
use Rattle.lits.specs.declared.node.Node.{Node}
use Rattle.lits.specs.declared.node.Node.TheVariants.{Const, Input, Gate}
use Rattle.netlist.specs.declared.gate.And.{And}
use Rattle.netlist.specs.Circuit.{Aig}
use Rattle.netlist.specs.Net.{AigPair, nodes_of, position_of}
use Rattle.lemma_book.specs.declared.entry.Entry.{Entry}
use Rattle.lemma_book.specs.Cone.{AreIn, IsClosed}
use Rattle.fraig_write.specs.Reduced.{ends_of, fanins_in, root_nodes}

-- the node is one of circuit A's: the constant, an input or a gate of A
abbrev pub is_in : Aig → Node → Bool
is_in a Const = true
is_in a (Input k) = nat_lt k (length a.inputs)
is_in a (Gate A v) = list_any (λ g. g.var == v) a.gates
is_in a n = false

-- the node has a position, which is marked
abbrev pub is_marked : AigPair → List Bool → Node → Bool
is_marked net marks n = option_map_or (λ p. slice_index_or marks p false) (position_of net n) false

-- these nodes are marked now too
pub record AreMarked (net : AigPair) (nodes : List Node) (old new : List Bool) : Type 0 where
  pub room : length new ≡ length old
  pub marked : (n : Node) → is_marked net new n ≡ (is_marked net old n || has same_node nodes n)

-- the roots of a gate's fanins
abbrev pub next_roots : AigPair → List Entry → Node → List Node
next_roots net entries n = root_nodes entries (fanins_in net.a n)

-- the roots of outputs and constraints
abbrev pub root_ends : AigPair → List Entry → List Node
root_ends net entries = root_nodes entries (ends_of net.a)

-- The walk has passed the gates of A from gate k on: where one of these is marked, so are the roots of its fanins. What is
-- marked is reached.
pub record IsWalked (net : AigPair) (entries : List Entry) (k : ℕ) (marks : List Bool) : Type 0 where
  pub room : length marks ≡ length (nodes_of net)
  pub ends : AreIn (is_marked net marks) (root_ends net entries)
  pub nexts : (j : ℕ) (g : And) → k ≤ j → slice_get net.a.gates j ≡ Some g → is_marked net marks (Gate A g.var) ≡ true
      → AreIn (is_marked net marks) (next_roots net entries (Gate A g.var))
  pub least : (set : Node → Bool) → IsClosed (next_roots net entries) (root_ends net entries) set
      → (n : Node) → is_marked net marks n ≡ true → set n ≡ true
