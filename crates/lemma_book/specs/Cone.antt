-- The cone of some nodes over a book: the clauses that define these nodes, those that define what the clauses speak of,
-- and so on down to the inputs (the transitive fanin cone of Berkeley's ABC), where a merged node stands for its target. An
-- output's cone has the constraints' units besides.
use Rattle.std.specs.Prelude.{◌≡◌, ℕ, ◌+◌, Bool, true, List, [], ◌∷◌, ◌++◌, map, filter}
use Rattle.std.specs.Option.{option_map_or, option_to_list, IsSome}
use Rattle.std.specs.List.{flat_map, AllByRecursion}
use Rattle.lits.specs.Clause.{has}
use Rattle.lits.specs.Same.{same_node}
use Rattle.lits.specs.declared.node.Side.{Side}
use Rattle.lits.specs.declared.node.Side.TheVariants.{A, B}
use Rattle.lits.specs.declared.node.Node.{Node}
use Rattle.lits.specs.declared.node.Node.TheVariants.{Const, Input, Gate, Xor}
use Rattle.lits.specs.declared.literal.Lit.{Lit}
use Rattle.lits.specs.declared.step.Ref.{Ref}
use Rattle.lits.specs.declared.step.Ref.TheVariants.{Axiom, Entry as Shown, Bound}
use Rattle.lits.specs.declared.step.Named.{Named}
use Rattle.netlist.specs.Circuit.{var_of}
use Rattle.netlist.specs.Net.{AigPair, bounds_on, circuit_of, node_of, gate_at, output_of}
use Rattle.netlist.specs.Miter.{axioms_of, unit, variables_of, variable_of}
use Rattle.lemma_book.specs.declared.entry.Entry.{Entry}
use Rattle.lemma_book.specs.Entry.{Question, OfPair, OfOutput, merge_clauses, seeds_of}
use Rattle.lemma_book.specs.Root.{merge_of}

-- the literals are over nodes that the miter has variables for
abbrev pub AreThere : AigPair → List Lit → Type 0
AreThere net lits = AllByRecursion (λ l. IsSome (variable_of net l.node)) lits

abbrev pub nodes_in : List Lit → List Node
nodes_in lits = map (λ l. l.node) lits

-- the nodes have those of the literals
abbrev pub Covers : List Node → List Lit → Type 0
Covers nodes lits = AllByRecursion (λ l. has same_node nodes l.node ≡ true) lits

-- the nodes by which a node is defined: a gate's two fanins, an XOR's two outputs
abbrev pub fanins_of : AigPair → Node → List Node
fanins_of net Const = []
fanins_of net (Input k) = []
fanins_of net (Gate side v) =
    option_map_or (λ g. node_of side (circuit_of net side) (var_of g.left) ∷ node_of side (circuit_of net side) (var_of g.right) ∷ [])
    (gate_at net side v) []
fanins_of net (Xor j) = nodes_in (option_to_list (output_of net A j) ++ option_to_list (output_of net B j))

-- where a node leads: a merged one to its target, another to its fanins
abbrev pub next_of : AigPair → List Entry → Node → List Node
next_of net entries n = option_map_or (λ m. m.lit.node ∷ []) (merge_of entries n) (fanins_of net n)

abbrev pub AreIn : (Node → Bool) → List Node → Type 0
AreIn set nodes = AllByRecursion (λ n. set n ≡ true) nodes

-- the set holds the seeds and, with each node, those to which it leads
pub record IsClosed (next : Node → List Node) (seeds : List Node) (set : Node → Bool) : Type 0 where
  pub starts : AreIn set seeds
  pub nexts : (n : Node) → set n ≡ true → AreIn set (next n)

-- the nodes that the seeds reach: the least such set
pub record IsReach (next : Node → List Node) (seeds : List Node) (reached : Node → Bool) : Type 0 where
  pub closed : IsClosed next seeds reached
  pub least : (set : Node → Bool) → IsClosed next seeds set → (n : Node) → reached n ≡ true → set n ≡ true

-- clauses with their names, which count from k on
abbrev pub named_from : (ℕ → Ref) → ℕ → List (List Lit) → List Named
named_from name k [] = []
named_from name k (c ∷ cs) = record { clause = c; by = name k } ∷ named_from name (k + 1) cs

-- the clauses that define a node, with their names
abbrev pub named_axioms : AigPair → Node → List Named
named_axioms net node = named_from (Axiom node) 0 (axioms_of net node)

-- the clauses of a node in a cone: a merged one has those of its merge, another one those that define it
abbrev pub named_clauses : AigPair → List Entry → Node → List Named
named_clauses net entries n =
    option_map_or (λ m. named_from (Shown m.entry) 0 (merge_clauses n m.lit)) (merge_of entries n) (named_axioms net n)

-- the cone of the seeds over the entries: the clauses of the reached nodes, in the order of the miter, in which each node
-- with a position comes by its position and XORs come last
pub record IsCone (net : AigPair) (entries : List Entry) (seeds : List Node) (cone : List Named) : Type 0 where
  pub reached : Node → Bool
  pub reach : IsReach (next_of net entries) seeds reached
  pub clauses : cone ≡ flat_map (named_clauses net entries) (filter reached (variables_of net))

-- the units of one side's constraints, with their names
abbrev pub named_bounds : AigPair → Side → List Named
named_bounds net side = named_from (Bound side) 0 (map unit (bounds_on net side))

-- the units of all constraints, with their names: those of A in order, then those of B
abbrev pub named_units : AigPair → List Named
named_units net = named_bounds net A ++ named_bounds net B

-- the cone of an output: that of its XOR and of the constraints' nodes, and behind it the units of all constraints
pub record IsOutputCone (net : AigPair) (entries : List Entry) (j : ℕ) (cone : List Named) : Type 0 where
  pub nodes : List Named
  pub is_cone : IsCone net entries (seeds_of net (OfOutput j)) nodes
  pub clauses : cone ≡ nodes ++ named_units net

-- the clauses that a query of the question is over: about a pair the cone of its two nodes, which no constraint joins, and
-- about an output its cone
abbrev pub IsConeOf : AigPair → List Entry → Question → List Named → Type 0
IsConeOf net entries (OfPair node lit) cone = IsCone net entries (seeds_of net (OfPair node lit)) cone
IsConeOf net entries (OfOutput j) cone = IsOutputCone net entries j cone

-- the clauses that a cone has of some of its nodes, in its order
abbrev pub clauses_on : AigPair → List Entry → List Node → List Named
clauses_on net entries nodes = flat_map (named_clauses net entries) (filter (has same_node nodes) (variables_of net))
