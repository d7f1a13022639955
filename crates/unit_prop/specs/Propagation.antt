-- What the clauses ask for where the literals of a list are true.
use Rattle.std.specs.Prelude.{◌≡◌, Bool, true, false, ◌&&◌, List}
use Rattle.std.specs.List.{list_any, AllByRecursion}
use Rattle.lits.specs.Clause.{has}
use Rattle.unit_prop.specs.Closure.{forces, is_negated}
use Rattle.unit_prop.specs.declared.propagation.Found.{Found}
use Rattle.unit_prop.specs.declared.propagation.Found.TheVariants.{Clash, Unit as Forced, Nothing}

-- no literal stands beside its negation
pub record IsConsistent {L : Type 0} (eq : L → L → Bool) (opposite : L → L) (set : List L) : Type 0 where
  pub apart : (l : L) → has eq set l ≡ true → has eq set (opposite l) ≡ false

-- neither the literal nor its negation is in the list
pub record IsFree {L : Type 0} (eq : L → L → Bool) (opposite : L → L) (set : List L) (lit : L) : Type 0 where
  pub fresh : has eq set lit ≡ false
  pub apart : has eq set (opposite lit) ≡ false

-- the clause has the literal and its others are negated
abbrev pub is_forced_by : {L : Type 0} → (L → L → Bool) → (L → L) → List L → L → List L → Bool
is_forced_by eq opposite set lit clause = has eq clause lit && forces eq opposite (has eq set) clause lit

-- the clause forces nothing that isn't in the list
abbrev pub IsSettled : {L : Type 0} → (L → L → Bool) → (L → L) → List L → List L → Type 0
IsSettled {L} eq opposite set clause =
    (l : L) → has eq clause l ≡ true → forces eq opposite (has eq set) clause l ≡ true → has eq set l ≡ true

-- what one clause asks for
abbrev pub AsksFor : {L : Type 0} → (L → L → Bool) → (L → L) → List L → List L → Found L → Type 0
AsksFor eq opposite set clause Clash = is_negated opposite (has eq set) clause ≡ true
AsksFor eq opposite set clause (Forced l) =
    IsFree eq opposite set l × (is_forced_by eq opposite set l clause ≡ true)
AsksFor eq opposite set clause Nothing =
    (is_negated opposite (has eq set) clause ≡ false) × IsSettled eq opposite set clause

-- what some clause asks for
abbrev pub IsFound : {L : Type 0} → (L → L → Bool) → (L → L) → List L → List (List L) → Found L → Type 0
IsFound eq opposite set clauses Clash = list_any (is_negated opposite (has eq set)) clauses ≡ true
IsFound eq opposite set clauses (Forced l) =
    IsFree eq opposite set l × (list_any (is_forced_by eq opposite set l) clauses ≡ true)
IsFound eq opposite set clauses Nothing =
    (list_any (is_negated opposite (has eq set)) clauses ≡ false) × AllByRecursion (IsSettled eq opposite set) clauses
