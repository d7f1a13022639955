-- What a refuter answers. Its base is a list of named clauses, its log the list of the steps that it has learned.
use Rattle.std.specs.Prelude.{◌≡◌, ℕ, ◌+◌, ◌≤◌, Bool, true, ◌||◌, List, ◌++◌, map, length}
use Rattle.std.specs.List.{list_any, list_all, AllByRecursion}
use Rattle.lits.specs.Clause.{has, IsClause}
use Rattle.lits.specs.declared.literal.Lit.{Lit}
use Rattle.lits.specs.declared.step.Named.{Named}
use Rattle.lits.specs.declared.step.Step.{Step}
use Rattle.unit_prop.specs.Closure.{IsOpen}
use Rattle.unit_prop.specs.New.{occurs}
use Rattle.unit_prop.specs.Step.{IsStep}
use Rattle.unit_prop.specs.Log.{base_clause, base_clauses, with_own, clauses_of, InTurn, IsLearned}
use Rattle.lits.specs.Same.{same_lit, opposite}
use Rattle.unit_prop.specs.declared.refuter.Refuted.{Refuted}
use Rattle.unit_prop.specs.declared.refuter.Refuted.TheVariants.{Yes, No, Spent}

-- the literal's variable is in the base
abbrev pub is_over : List Named → Lit → Bool
is_over base lit = occurs same_lit opposite (base_clauses base) lit

-- each variable of the clause is in the base
abbrev pub IsOver : List Named → List Lit → Type 0
IsOver base clause = AllByRecursion (λ l. is_over base l ≡ true) clause

-- unit propagation from the target's negations doesn't clash over base and log
abbrev pub IsUndecided : List Named → List Lit → List Step → Type 0
IsUndecided base target log = IsOpen same_lit opposite (clauses_of base log) (map opposite target)

-- before each of the steps the target is undecided
abbrev pub StaysUndecided : List Named → List Lit → List Step → List Step → Type 0
StaysUndecided base target before steps = InTurn (λ log _. IsUndecided base target log) before steps

-- one literal for each variable of the base, under which each clause of the base is true and the target is false
pub record IsModel (base : List Named) (target model : List Lit) : Type 0 where
  pub once : IsClause same_lit opposite model
  pub within : IsOver base model
  pub whole : (l : Lit) → is_over base l ≡ true → (has same_lit model l || has same_lit model (opposite l)) ≡ true
  pub meets : AllByRecursion (λ c. list_any (has same_lit model) c ≡ true) (base_clauses base)
  pub refutes : list_all (λ l. has same_lit model (opposite l)) target ≡ true

-- the answer is right over base and log, with the units that are left: none exactly where it is Spent
abbrev pub IsAnswer : List Named → List Step → List Lit → ℕ → Refuted → Type 0
IsAnswer base log target left (Yes hints) =
    (1 ≤ left) × IsStep same_lit opposite (with_own (base_clause base) log) target hints
IsAnswer base log target left (No model) = (1 ≤ left) × IsModel base target model
IsAnswer base log target left Spent = left ≡ 0

-- what a query of the target makes of log and budget, and its answer: the log grows by learned steps alone, each for
-- one unit and learned while the target is undecided
pub record Answers (base : List Named) (target : List Lit) (log : List Step) (left : ℕ) (log' : List Step) (left' : ℕ) (result : Refuted) : Type 0 where
  pub steps : List Step
  pub grows : log' ≡ log ++ steps
  pub spends : left' + length steps ≡ left
  pub learned : InTurn (IsLearned base) log steps
  pub undecided : StaysUndecided base target log steps
  pub answer : IsAnswer base log' target left' result
