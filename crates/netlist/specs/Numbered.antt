-- The miter's clauses by their numbers, node by node.
use Rattle.std.specs.Prelude.{◌≡◌, ℕ, true, List, [], map, take, slice_get}
use Rattle.std.specs.List.{flat_map, AllByRecursion}
use Rattle.std.specs.Option.{option_map_or}
use Rattle.lits.specs.Clause.{has}
use Rattle.lits.specs.Dimacs.{DimacsLiteral}
use Rattle.lits.specs.declared.literal.Lit.{Lit}
use Rattle.netlist.specs.Net.{AigPair}
use Rattle.lits.specs.Same.{same_node}
use Rattle.netlist.specs.Miter.{variables_of, axioms_of, numbered}

-- each literal's node has a CNF variable
abbrev pub AreThere : AigPair → List Lit → Type 0
AreThere net lits = AllByRecursion (λ l. has same_node (variables_of net) l.node ≡ true) lits

-- the clauses of the node with a variable, the variable counted from 0
unfoldable pub numbered_at : AigPair → ℕ → List (List DimacsLiteral)
numbered_at net place = map (λ c. map (numbered net) c) (option_map_or (axioms_of net) (slice_get (variables_of net) place) [])

-- the clauses of the nodes before
unfoldable pub numbered_before : AigPair → ℕ → List (List DimacsLiteral)
numbered_before net place = map (λ c. map (numbered net) c) (flat_map (axioms_of net) (take place (variables_of net)))
