-- The variables of clauses. The variable of a literal is its node.
use Rattle.std.specs.Prelude.{ℕ, List, map, length}
use Rattle.std.specs.List.{flat_map}
use Rattle.lits.specs.Clause.{firsts}
use Rattle.lits.specs.Same.{same_node}
use Rattle.lits.specs.declared.literal.Lit.{Lit}
use Rattle.lits.specs.declared.node.Node.{Node}
use Rattle.lits.specs.declared.step.Named.{Named}
use Rattle.unit_prop.specs.Log.{base_clauses}

-- the variables that occur in the clauses, each once
abbrev pub variables_in : List (List Lit) → List Node
variables_in clauses = firsts same_node (flat_map (map (λ l. l.node)) clauses)

-- how many different variables occur in the base
abbrev pub variables : List Named → ℕ
variables base = length (variables_in (base_clauses base))
