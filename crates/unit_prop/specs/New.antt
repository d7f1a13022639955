-- When a clause is new over others: it says something that unit propagation alone doesn't find in them.
use Rattle.std.specs.Prelude.{◌≡◌, Bool, true, false, not, ◌||◌, List, map, filter}
use Rattle.std.specs.List.{list_any, AllByRecursion}
use Rattle.lits.specs.Clause.{has}
use Rattle.unit_prop.specs.Closure.{IsClosed, Clashes}

-- the literal's variable is in some clause
abbrev pub occurs : {L : Type 0} → (L → L → Bool) → (L → L) → List (List L) → L → Bool
occurs eq opposite clauses lit = list_any (λ c. has eq c lit || has eq c (opposite lit)) clauses

-- the negations of the clause's literals but for one
abbrev pub others_negated : {L : Type 0} → (L → L → Bool) → (L → L) → List L → L → List L
others_negated eq opposite clause lit = map opposite (filter (λ m. not (eq m lit)) clause)

-- the closure of the clauses and the given literals doesn't clash and lacks the literal: some closed set does so
pub record Lacks {L : Type 0} (eq : L → L → Bool) (opposite : L → L) (clauses : List (List L)) (given : List L) (lit : L) : Type 0 where
  pub set : L → Bool
  pub closed : IsClosed eq opposite clauses given set
  pub apart : ¬ Clashes opposite clauses set
  pub lacks : set lit ≡ false

-- each variable of the clause is in the clauses, and the clause has a literal that unit propagation doesn't find
-- from the negations of the others
pub record IsNew {L : Type 0} (eq : L → L → Bool) (opposite : L → L) (clauses : List (List L)) (clause : List L) : Type 0 where
  pub known : AllByRecursion (λ l. occurs eq opposite clauses l ≡ true) clause
  pub lit : L
  pub inside : has eq clause lit ≡ true
  pub missed : Lacks eq opposite clauses (others_negated eq opposite clause lit) lit

-- the two clauses have the same literals
abbrev pub SameLiterals : {L : Type 0} → (L → L → Bool) → List L → List L → Type 0
SameLiterals {L} eq first second = (l : L) → has eq first l ≡ has eq second l
