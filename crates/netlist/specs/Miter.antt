-- The miter of two circuits in conjunctive normal form: the clauses of the gates and of one XOR per output (Tseitin
-- 1968), a unit per constraint, and one clause that says that some XOR is true (Brand 1993). They are numbered for DIMACS
-- files.
use Rattle.std.specs.Prelude.{ℕ, ◌+◌, nat_lt, true, false, Option, None, Some, List, [], ◌∷◌, ◌++◌, length, map, slice_get, if◌then◌else◌}
use Rattle.std.specs.List.{flat_map, range_with_len}
use Rattle.std.specs.Option.{option_map, option_map_or, unwrap_or}
use Rattle.lits.specs.Clause.{firsts, has_pair}
use Rattle.lits.specs.Dimacs.{DimacsLiteral}
use Rattle.lits.specs.declared.node.Side.{Side}
use Rattle.lits.specs.declared.node.Side.TheVariants.{A, B}
use Rattle.lits.specs.declared.node.Node.{Node}
use Rattle.lits.specs.declared.node.Node.TheVariants.{Const, Input, Gate, Xor}
use Rattle.lits.specs.declared.literal.Lit.{Lit}
use Rattle.netlist.specs.Place.{place_of, before}
use Rattle.netlist.specs.declared.gate.Definition.{Definition}
use Rattle.netlist.specs.Net.{AigPair, bounds_of, circuit_of, definition_of, gate_at, output_of, nodes_of}
use Rattle.lits.specs.Same.{same_node, same_lit, opposite}

abbrev pub positive : Node → Lit
positive node = record { node = node; neg = false }

abbrev pub negative : Node → Lit
negative node = record { node = node; neg = true }

-- g = a AND b
abbrev pub gate_clauses : Definition → List (List Lit)
gate_clauses d =
    (negative d.node ∷ d.left ∷ []) ∷ (negative d.node ∷ d.right ∷ [])
    ∷ (positive d.node ∷ opposite d.left ∷ opposite d.right ∷ []) ∷ []

-- x = a XOR b
abbrev pub xor_clauses : Node → Lit → Lit → List (List Lit)
xor_clauses x a b =
    (negative x ∷ a ∷ b ∷ []) ∷ (negative x ∷ opposite a ∷ opposite b ∷ [])
    ∷ (positive x ∷ opposite a ∷ b ∷ []) ∷ (positive x ∷ a ∷ opposite b ∷ []) ∷ []

-- the clauses that stay: a clause with a complementary pair is left out, and a repeated literal stands once, at its
-- first place
abbrev pub kept : List (List Lit) → List (List Lit)
kept [] = []
kept (c ∷ cs) = if has_pair same_lit opposite c then kept cs else firsts same_lit c ∷ kept cs

-- the clauses of an XOR, from its two outputs
abbrev pub xor_axioms : ℕ → Option Lit → Option Lit → List (List Lit)
xor_axioms j (Some a) (Some b) = kept (xor_clauses (Xor j) a b)
xor_axioms j _ _ = []

-- the clauses that define a node: the constant is true, an input is free
abbrev pub axioms_of : AigPair → Node → List (List Lit)
axioms_of net Const = (positive Const ∷ []) ∷ []
axioms_of net (Input k) = []
axioms_of net (Gate side v) =
    option_map_or (λ g. kept (gate_clauses (definition_of side (circuit_of net side) g))) (gate_at net side v) []
axioms_of net (Xor j) = xor_axioms j (output_of net A j) (output_of net B j)

-- clause k of those that define the node, from 0
abbrev pub axiom_of : AigPair → Node → ℕ → Option (List Lit)
axiom_of net node k = slice_get (axioms_of net node) k

-- one XOR per output
abbrev pub xors_of : AigPair → List Node
xors_of net = map Xor (range_with_len 0 (length net.a.outputs))

-- the nodes in the order of their CNF variables: those with a position, then the XORs
abbrev pub variables_of : AigPair → List Node
variables_of net = nodes_of net ++ xors_of net

-- the CNF variable of a node: they count from 1
abbrev pub variable_of : AigPair → Node → Option ℕ
variable_of net node = option_map (λ k. k + 1) (place_of (λ n. same_node n node) (variables_of net))

-- the literal's number in the DIMACS file; none where the node isn't there
abbrev pub cnf_number_of : AigPair → Lit → Option DimacsLiteral
cnf_number_of net l = option_map (λ v. record { var = v; neg = l.neg }) (variable_of net l.node)

-- the clause of one literal
abbrev pub unit : Lit → List Lit
unit l = l ∷ []

-- the clauses that define the nodes, in the order of the variables
abbrev pub defining_clauses : AigPair → List (List Lit)
defining_clauses net = flat_map (axioms_of net) (variables_of net)

-- the unit clauses that say that the constraints are true, those of A in order, then those of B
abbrev pub units_of : AigPair → List (List Lit)
units_of net = map unit (bounds_of net)

-- the miter's clauses over nodes: those that define the nodes, the constraints' units, and last the clause of all XORs
abbrev pub clauses_of : AigPair → List (List Lit)
clauses_of net = (defining_clauses net ++ units_of net) ++ (map positive (xors_of net) ∷ [])

-- a literal by its number; each literal of the miter has one
abbrev pub numbered : AigPair → Lit → DimacsLiteral
numbered net l = record { var = unwrap_or (variable_of net l.node) 0; neg = l.neg }

-- the miter
abbrev pub miter_of : AigPair → List (List DimacsLiteral)
miter_of net = map (λ c. map (numbered net) c) (clauses_of net)

-- the number in the miter, from 1, of clause k of those that define the node
abbrev pub clause_number_of : AigPair → Node → ℕ → Option ℕ
clause_number_of net node k =
    if nat_lt k (length (axioms_of net node))
    then Some (length (flat_map (axioms_of net) (before (λ n. same_node n node) (variables_of net))) + k + 1)
    else None

-- the place among all units at which those of one side begin
abbrev pub first_unit : AigPair → Side → ℕ
first_unit net A = 0
first_unit net B = length net.a.constraints

-- the number in the miter, from 1, of the unit of constraint k of one side
abbrev pub bound_number_of : AigPair → Side → ℕ → Option ℕ
bound_number_of net side k =
    if nat_lt k (length (circuit_of net side).constraints)
    then Some (length (defining_clauses net) + (first_unit net side + k) + 1)
    else None
