-- The clauses of a text as far as they are read.
use Rattle.std.specs.Prelude.{◌≡◌, List, [], ◌∷◌, ◌++◌, map, Option, Some, None}
use Rattle.std.specs.List.{flat_map}
use Rattle.lits.specs.Clause.{firsts}
use Rattle.lits.specs.Dimacs.{DimacsLiteral}
use Rattle.lits.specs.Same.{same_dim}
use Rattle.dimacs_text.specs.declared.clauses.Clauses.{Clauses}

-- a clause as it is read: its literals, and then a 0
abbrev pub entries_of : List DimacsLiteral → List (Option DimacsLiteral)
entries_of clause = map (λ d. Some d) clause ++ None ∷ []

-- The entries are those of some clauses, and then these open literals; of each clause the first of its repeated literals
-- are kept.
pub record AreReadAs (entries : List (Option DimacsLiteral)) (ended : List (List DimacsLiteral))
    (open_literals : List DimacsLiteral) : Type 0 where
  pub clauses : List (List DimacsLiteral)
  pub kept : ended ≡ map (firsts same_dim) clauses
  pub split : entries ≡ flat_map entries_of clauses ++ map (λ d. Some d) open_literals

abbrev pub AreRead : List (Option DimacsLiteral) → Clauses → Type 0
AreRead entries clauses = AreReadAs entries clauses.ended.items clauses.«open».items
