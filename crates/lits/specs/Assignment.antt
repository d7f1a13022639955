-- Assignments of truth values, and what clauses ask of them. A formula is a list of clauses, each read as a
-- disjunction (conjunctive normal form).
use Rattle.std.specs.Prelude.{◌≡◌, Bool, true, not, List}
use Rattle.std.specs.List.{list_any, AllByRecursion}

-- v gives each literal a truth value, and its negation the other one
pub record IsAssignment {L : Type 0} (opposite : L → L) (v : L → Bool) : Type 0 where
  pub negates : (l : L) → v (opposite l) ≡ not (v l)

-- some literal of the clause is true under v
abbrev pub Holds : {L : Type 0} → (L → Bool) → List L → Type 0
Holds v clause = list_any v clause ≡ true

-- each clause holds under v
abbrev pub Meets : {L : Type 0} → (L → Bool) → List (List L) → Type 0
Meets v clauses = AllByRecursion (Holds v) clauses

-- some assignment meets all the clauses
pub record IsSatisfiable {L : Type 0} (opposite : L → L) (clauses : List (List L)) : Type 0 where
  pub values : L → Bool
  pub assigns : IsAssignment opposite values
  pub meets : Meets values clauses

-- the clause holds under each assignment that meets the clauses
abbrev pub Follows : {L : Type 0} → (L → L) → List (List L) → List L → Type 0
Follows {L} opposite clauses clause = (v : L → Bool) → IsAssignment opposite v → Meets v clauses → Holds v clause
