-- Unit propagation as a set: what clauses force once some literals are given. `eq` is the literals' `==`, `opposite`
-- their negation; a set of literals is a test. Sources: reverse unit propagation (Goldberg and Novikov 2003, Van
-- Gelder 2008).
use Rattle.std.specs.Prelude.{◌≡◌, Bool, true, ◌||◌, ◌⊎◌, List}
use Rattle.std.specs.List.{list_any, list_all, AllByRecursion}
use Rattle.lits.specs.Clause.{has}
use Rattle.unit_prop.specs.declared.propagation.Closure.{Closure}
use Rattle.unit_prop.specs.declared.propagation.Closure.TheVariants.{Clash, Free}

-- each other literal of the clause is negated in the set
abbrev pub forces : {L : Type 0} → (L → L → Bool) → (L → L) → (L → Bool) → List L → L → Bool
forces eq opposite set clause lit = list_all (λ m. eq m lit || set (opposite m)) clause

-- each literal of the clause is negated in the set
abbrev pub is_negated : {L : Type 0} → (L → L) → (L → Bool) → List L → Bool
is_negated opposite set clause = list_all (λ m. set (opposite m)) clause

-- the set holds what is given and, of each clause whose other literals are negated in it, the one left; of a clause
-- that is wholly negated, which clashes anyhow, it holds each
pub record IsClosed {L : Type 0} (eq : L → L → Bool) (opposite : L → L) (clauses : List (List L)) (given : List L) (set : L → Bool) : Type 0 where
  pub starts : (l : L) → has eq given l ≡ true → set l ≡ true
  pub units : AllByRecursion (λ c. (l : L) → has eq c l ≡ true → forces eq opposite set c l ≡ true → set l ≡ true) clauses

-- the set negates a whole clause, or holds a literal beside its negation
abbrev pub Clashes : {L : Type 0} → (L → L) → List (List L) → (L → Bool) → Type 0
Clashes {L} opposite clauses set =
    (list_any (is_negated opposite set) clauses ≡ true) ⊎ ((l : L) × (set l ≡ true) × (set (opposite l) ≡ true))

-- the list is the closure: it is closed, and in each closed set
pub record IsClosure {L : Type 0} (eq : L → L → Bool) (opposite : L → L) (clauses : List (List L)) (given lits : List L) : Type 0 where
  pub closed : IsClosed eq opposite clauses given (has eq lits)
  pub least : (set : L → Bool) → IsClosed eq opposite clauses given set → (l : L) → has eq lits l ≡ true → set l ≡ true

-- the closure clashes: each closed set does
abbrev pub ClosureClashes : {L : Type 0} → (L → L → Bool) → (L → L) → List (List L) → List L → Type 0
ClosureClashes {L} eq opposite clauses given =
    (set : L → Bool) → IsClosed eq opposite clauses given set → Clashes opposite clauses set

-- the closure doesn't clash: some closed set doesn't
pub record IsOpen {L : Type 0} (eq : L → L → Bool) (opposite : L → L) (clauses : List (List L)) (given : List L) : Type 0 where
  pub set : L → Bool
  pub closed : IsClosed eq opposite clauses given set
  pub apart : ¬ Clashes opposite clauses set

-- unit propagation from the given literals comes to this
abbrev pub ClosesTo : {L : Type 0} → (L → L → Bool) → (L → L) → List (List L) → List L → Closure L → Type 0
ClosesTo eq opposite clauses given Clash = ClosureClashes eq opposite clauses given
ClosesTo eq opposite clauses given (Free lits) =
    IsClosure eq opposite clauses given lits × ¬ Clashes opposite clauses (has eq lits)

-- each literal of the list is true
abbrev pub AllTrue : {L : Type 0} → (L → Bool) → List L → Type 0
AllTrue v lits = AllByRecursion (λ l. v l ≡ true) lits
