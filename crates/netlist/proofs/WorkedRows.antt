-- The definitions on small circuits, worked out by hand from the text of `specs/Miter.antt`.
use Rattle.std.specs.Prelude.{◌≡◌, ℕ, true, false, None, Some, List, [], ◌∷◌, refl}
use Rattle.lits.specs.Dimacs.{DimacsLiteral}
use Rattle.lits.specs.declared.node.Side.TheVariants.{A, B}
use Rattle.lits.specs.declared.node.Node.TheVariants.{Gate, Xor}
use Rattle.netlist.specs.declared.gate.And.{And}
use Rattle.netlist.specs.Circuit.{plain, Aig, value_in}
use Rattle.netlist.specs.Net.{AigPair, meets_constraints, position_of, value_of}
use Rattle.netlist.specs.Miter.{miter_of, bound_number_of, clause_number_of, cnf_number_of}

abbrev p : ℕ → DimacsLiteral
p v = record { var = v; neg = false }

abbrev n : ℕ → DimacsLiteral
n v = record { var = v; neg = true }

abbrev gate : ℕ → ℕ → ℕ → And
gate v l r = record { var = v; left = l; right = r }

abbrev aig : List ℕ → List And → List ℕ → Aig
aig i g o = plain i g o

abbrev pair : Aig → Aig → AigPair
pair a b = record { a = a; b = b }

abbrev a1 : Aig
a1 = aig (1 ∷ 2 ∷ []) (gate 3 2 4 ∷ []) (6 ∷ [])

abbrev b1 : Aig
b1 = aig (1 ∷ 2 ∷ []) (gate 3 4 2 ∷ []) (6 ∷ [])

swapped_and : miter_of (pair a1 b1) ≡ (p 1 ∷ []) ∷ (n 4 ∷ p 2 ∷ []) ∷ (n 4 ∷ p 3 ∷ []) ∷ (p 4 ∷ n 2 ∷ n 3 ∷ []) ∷ (n 5 ∷ p 3 ∷ []) ∷ (n 5 ∷ p 2 ∷ []) ∷ (p 5 ∷ n 3 ∷ n 2 ∷ []) ∷ (n 6 ∷ p 4 ∷ p 5 ∷ []) ∷ (n 6 ∷ n 4 ∷ n 5 ∷ []) ∷ (p 6 ∷ n 4 ∷ p 5 ∷ []) ∷ (p 6 ∷ p 4 ∷ n 5 ∷ []) ∷ (p 6 ∷ []) ∷ []
swapped_and = refl

and_against_false : miter_of (pair a1 (aig (1 ∷ 2 ∷ []) [] (0 ∷ []))) ≡ (p 1 ∷ []) ∷ (n 4 ∷ p 2 ∷ []) ∷ (n 4 ∷ p 3 ∷ []) ∷ (p 4 ∷ n 2 ∷ n 3 ∷ []) ∷ (n 5 ∷ p 4 ∷ n 1 ∷ []) ∷ (n 5 ∷ n 4 ∷ p 1 ∷ []) ∷ (p 5 ∷ n 4 ∷ n 1 ∷ []) ∷ (p 5 ∷ p 4 ∷ p 1 ∷ []) ∷ (p 5 ∷ []) ∷ []
and_against_false = refl

empty_circuits : miter_of (pair (aig [] [] []) (aig [] [] [])) ≡ (p 1 ∷ []) ∷ [] ∷ []
empty_circuits = refl

constants_differ : miter_of (pair (aig [] [] (0 ∷ [])) (aig [] [] (1 ∷ []))) ≡ (p 1 ∷ []) ∷ (p 2 ∷ p 1 ∷ []) ∷ (p 2 ∷ n 1 ∷ []) ∷ (p 2 ∷ []) ∷ []
constants_differ = refl

merged : miter_of (pair (aig (1 ∷ []) (gate 2 2 2 ∷ gate 3 2 3 ∷ []) (4 ∷ 6 ∷ [])) (aig (1 ∷ []) [] (2 ∷ 0 ∷ []))) ≡ (p 1 ∷ []) ∷ (n 3 ∷ p 2 ∷ []) ∷ (n 3 ∷ p 2 ∷ []) ∷ (p 3 ∷ n 2 ∷ []) ∷ (n 4 ∷ p 2 ∷ []) ∷ (n 4 ∷ n 2 ∷ []) ∷ (n 5 ∷ p 3 ∷ p 2 ∷ []) ∷ (n 5 ∷ n 3 ∷ n 2 ∷ []) ∷ (p 5 ∷ n 3 ∷ p 2 ∷ []) ∷ (p 5 ∷ p 3 ∷ n 2 ∷ []) ∷ (n 6 ∷ p 4 ∷ n 1 ∷ []) ∷ (n 6 ∷ n 4 ∷ p 1 ∷ []) ∷ (p 6 ∷ n 4 ∷ n 1 ∷ []) ∷ (p 6 ∷ p 4 ∷ p 1 ∷ []) ∷ (p 5 ∷ p 6 ∷ []) ∷ []
merged = refl

b_place : position_of (pair a1 b1) (Gate B 3) ≡ Some 4
b_place = refl

b_clause : clause_number_of (pair a1 b1) (Gate B 3) 2 ≡ Some 7
b_clause = refl

b_number : cnf_number_of (pair a1 b1) (record { node = Gate B 3; neg = true }) ≡ Some (n 5)
b_number = refl

v1 : value_in a1 (true ∷ true ∷ []) 7 ≡ false
v1 = refl

x1 : value_of (pair a1 (aig (1 ∷ 2 ∷ []) [] (0 ∷ []))) (true ∷ true ∷ []) (Xor 0) ≡ true
x1 = refl

none : clause_number_of (pair a1 b1) (Gate B 4) 0 ≡ None
none = refl

-- the same with constraints: those of A have units before those of B, behind the clauses that define the nodes
abbrev bound : Aig → List ℕ → Aig
bound c literals = record c { constraints = literals }

abbrev input_true : Aig
input_true = bound (aig (1 ∷ []) [] []) (2 ∷ [])

both_bound : miter_of (pair input_true input_true) ≡ (p 1 ∷ []) ∷ (p 2 ∷ []) ∷ (p 2 ∷ []) ∷ [] ∷ []
both_bound = refl

both_bound_b : bound_number_of (pair input_true input_true) B 0 ≡ Some 3
both_bound_b = refl

abbrev and_bound : AigPair
and_bound = pair (bound a1 (2 ∷ [])) (aig (1 ∷ 2 ∷ []) [] (4 ∷ []))

first_input_true : miter_of and_bound ≡ (p 1 ∷ []) ∷ (n 4 ∷ p 2 ∷ []) ∷ (n 4 ∷ p 3 ∷ []) ∷ (p 4 ∷ n 2 ∷ n 3 ∷ []) ∷ (n 5 ∷ p 4 ∷ p 3 ∷ []) ∷ (n 5 ∷ n 4 ∷ n 3 ∷ []) ∷ (p 5 ∷ n 4 ∷ p 3 ∷ []) ∷ (p 5 ∷ p 4 ∷ n 3 ∷ []) ∷ (p 2 ∷ []) ∷ (p 5 ∷ []) ∷ []
first_input_true = refl

ninth : bound_number_of and_bound A 0 ≡ Some 9
ninth = refl

no_bound_b : bound_number_of and_bound B 0 ≡ None
no_bound_b = refl

second_true_alone : meets_constraints and_bound.a (false ∷ true ∷ []) ≡ false
second_true_alone = refl

none_admitted : miter_of (pair (bound (aig [] [] (1 ∷ [])) (0 ∷ [])) (aig [] [] (0 ∷ []))) ≡ (p 1 ∷ []) ∷ (p 2 ∷ n 1 ∷ []) ∷ (p 2 ∷ p 1 ∷ []) ∷ (n 1 ∷ []) ∷ (p 2 ∷ []) ∷ []
none_admitted = refl
