-- The clauses that a solver works over, and their variables.
use Rattle.std.specs.Prelude.{◌≡◌, List, [], ◌∷◌, ◌++◌, map, Option}
use Rattle.std.specs.List.{AllByRecursion}
use Rattle.lits.specs.Clause.{firsts}
use Rattle.lits.specs.declared.literal.Lit.{Lit}
use Rattle.lits.specs.declared.step.Named.{Named}
use Rattle.lits.specs.declared.step.Step.{Step}
use Rattle.lits.specs.declared.step.Ref.{Ref}
use Rattle.unit_prop.specs.Log.{base_clause, with_own, clauses_of, IsBase}
use Rattle.lits.specs.Same.{same_lit}
use Rattle.unit_prop.specs.Refuter.{IsOver}
use Rattle.solver_plain.specs.Literals.{variable_of}

-- the clauses of a base and those of the steps learned over it
pub record Clauses : Type 0 where
  pub base : List Named
  pub log : List Step

-- the clause of a name
abbrev pub clause_named : Clauses → Ref → Option (List Lit)
clause_named f = with_own (base_clause f.base) f.log

-- the clauses in order: the base's, then the log's
abbrev pub clauses_in : Clauses → List (List Lit)
clauses_in f = clauses_of f.base f.log

-- the literals of a base, clause by clause
abbrev pub literals_of : List Named → List Lit
literals_of [] = []
literals_of (n ∷ ns) = n.clause ++ literals_of ns

-- the variables of a base, each once, by first place
abbrev pub variables_of : List Named → List Lit
variables_of base = firsts same_lit (map variable_of (literals_of base))

-- what a formula keeps: names that differ, the variables of its base, and learned clauses over these
pub record IsFormula (base : List Named) (log : List Step) (variables : List Lit) : Type 0 where
  pub base_is : IsBase base
  pub variables_are : variables ≡ variables_of base
  pub within : AllByRecursion (λ s. IsOver base s.clause) log
