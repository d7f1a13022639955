-- What a clause does by unit propagation where the literals of a set are true.
use Rattle.std.specs.Prelude.{◌≡◌, Bool, true, false, List, Option, Some, None}
use Rattle.std.specs.List.{AllByRecursion}
use Rattle.lits.specs.Clause.{has}
use Rattle.lits.specs.declared.literal.Lit.{Lit}
use Rattle.lits.specs.declared.step.Ref.{Ref}
use Rattle.unit_prop.specs.Closure.{is_negated}
use Rattle.unit_prop.specs.Propagation.{IsFree, is_forced_by, IsSettled}
use Rattle.lits.specs.Same.{same_lit, opposite}
use Rattle.solver_plain.specs.declared.effect.Effect.{Effect}
use Rattle.solver_plain.specs.declared.effect.Effect.TheVariants.{Clashes, Forces}
use Rattle.solver_plain.specs.declared.formula.Hint.{Hint}

-- each other literal of the clause is negated in the set, and this one is free
pub record IsUnit {L : Type 0} (eq : L → L → Bool) (opposite : L → L) (set clause : List L) (lit : L) : Type 0 where
  pub free : IsFree eq opposite set lit
  pub forced : is_forced_by eq opposite set lit clause ≡ true

-- the clause isn't wholly negated, and forces no literal that the set lacks
pub record IsQuiet {L : Type 0} (eq : L → L → Bool) (opposite : L → L) (set clause : List L) : Type 0 where
  pub not_negated : is_negated opposite (has eq set) clause ≡ false
  pub settled : IsSettled eq opposite set clause

-- each clause of the list is quiet
abbrev pub AreQuiet : List Lit → List (List Lit) → Type 0
AreQuiet set clauses = AllByRecursion (IsQuiet same_lit opposite set) clauses

-- the clause does this
abbrev pub HasEffect : List Lit → List Lit → Effect → Type 0
HasEffect set clause Clashes = is_negated opposite (has same_lit set) clause ≡ true
HasEffect set clause (Forces lit) = IsUnit same_lit opposite set clause lit

-- the clause does this, if anything
abbrev pub HasEffects : List Lit → List Lit → Option Effect → Type 0
HasEffects set clause None = IsQuiet same_lit opposite set clause
HasEffects set clause (Some effect) = HasEffect set clause effect

-- the hint's clause is the one of its name, and does what the hint says
pub record IsHint (find : Ref → Option (List Lit)) (set : List Lit) (hint : Hint) : Type 0 where
  pub clause : List Lit
  pub named : find hint.by ≡ Some clause
  pub acts : HasEffect set clause hint.effect
