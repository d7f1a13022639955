-- What a scan finds: the hints of a clash, or the closure of the literals that it began with.
use Rattle.std.specs.Prelude.{◌≡◌, true, false, List, Option, Some, None}
use Rattle.lits.specs.Clause.{has}
use Rattle.lits.specs.declared.literal.Lit.{Lit}
use Rattle.lits.specs.declared.step.Ref.{Ref}
use Rattle.unit_prop.specs.Closure.{Clashes, IsClosure, ClosureClashes}
use Rattle.unit_prop.specs.Propagation.{IsConsistent, IsFree}
use Rattle.unit_prop.specs.Step.{fault_from}
use Rattle.lits.specs.Same.{same_lit, opposite}
use Rattle.unit_prop.specs.Refuter.{is_over, IsOver}
use Rattle.solver_plain.specs.Formula.{Clauses, clause_named, clauses_in}

-- a set of literals that holds no literal beside its negation, over the variables of a formula's base
pub record IsSound (f : Clauses) (set : List Lit) : Type 0 where
  pub consistent : IsConsistent same_lit opposite set
  pub over : IsOver f.base set

-- a variable of the base to which the set gives no value
pub record IsFreeVariable (f : Clauses) (set : List Lit) (variable : Lit) : Type 0 where
  pub over : is_over f.base variable ≡ true
  pub free : IsFree same_lit opposite set variable

-- the set is the closure of the formula's clauses and the given literals, and doesn't clash
pub record IsOpenClosure (f : Clauses) (given set : List Lit) : Type 0 where
  pub closure : IsClosure same_lit opposite (clauses_in f) given set
  pub apart : ¬ Clashes opposite (clauses_in f) (has same_lit set)
  pub sound : IsSound f set

-- the closure of the formula's clauses and the given literals clashes
abbrev pub ClashesFrom : Clauses → List Lit → Type 0
ClashesFrom f given = ClosureClashes same_lit opposite (clauses_in f) given

-- from the given literals the hints reach a clause that is wholly negated
abbrev pub ReachesClash : Clauses → List Lit → List Ref → Type 0
ReachesClash f given hints =
    fault_from same_lit opposite (clause_named f) 1 (record { set = given; clashed = false }) hints ≡ None

-- from the given literals the hints reach a clash, as each closed set does
pub record IsClash (f : Clauses) (given : List Lit) (hints : List Ref) : Type 0 where
  pub reached : ReachesClash f given hints
  pub clashes : ClashesFrom f given

-- what a scan from the given literals answers, and the set that it leaves
abbrev pub IsScan : Clauses → List Lit → List Lit → Option (List Ref) → Type 0
IsScan f given set (Some hints) = IsClash f given hints
IsScan f given set None = IsOpenClosure f given set
