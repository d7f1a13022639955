-- Lists of proof steps over named clauses, and the logs of learned clauses among them. In a list of steps the clause
-- of step k, from 0, has the name `Own k`; other names are those of clauses that stand before.
use Rattle.std.specs.Prelude.{◌≡◌, ℕ, Bool, true, false, List, [], ◌∷◌, ◌++◌, map, length, Option, Some, None, option_map, if◌then◌else◌}
use Rattle.std.specs.List.{list_any, slice_get}
use Rattle.lits.specs.Clause.{no_repeat}
use Rattle.lits.specs.declared.literal.Lit.{Lit}
use Rattle.lits.specs.declared.step.Named.{Named}
use Rattle.lits.specs.declared.step.Step.{Step}
use Rattle.lits.specs.declared.step.Ref.{Ref}
use Rattle.lits.specs.declared.step.Ref.TheVariants.{Axiom, Entry, Own, Bound}
use Rattle.lits.specs.contracts.step.RefPartialEq.TheImpl as ref_eq
use Rattle.lits.specs.Same.{same_lit, opposite}
use Rattle.unit_prop.specs.New.{IsNew}
use Rattle.unit_prop.specs.Step.{IsStep}

-- the `==` of names
abbrev pub same_name : Ref → Ref → Bool
same_name = ref_eq.ghosts.eq

-- whether the name is that of an own step
abbrev pub is_own : Ref → Bool
is_own (Axiom node k) = false
is_own (Entry entry k) = false
is_own (Own k) = true
is_own (Bound side k) = false

-- the names of a base differ, and none is that of an own step
pub record IsBase (base : List Named) : Type 0 where
  pub differ : no_repeat same_name (map (λ n. n.by) base) ≡ true
  pub foreign : list_any (λ n. is_own n.by) base ≡ false

-- the base's clause of that name
abbrev pub base_clause : List Named → Ref → Option (List Lit)
base_clause [] name = None
base_clause (n ∷ ns) name = if same_name n.by name then Some n.clause else base_clause ns name

-- the clause of a name where own steps stand besides the clauses that `find` gives
abbrev pub with_own : (Ref → Option (List Lit)) → List Step → Ref → Option (List Lit)
with_own find steps (Axiom node k) = find (Axiom node k)
with_own find steps (Entry entry k) = find (Entry entry k)
with_own find steps (Own k) = option_map (λ s. s.clause) (slice_get steps k)
with_own find steps (Bound side k) = find (Bound side k)

-- the clauses of a base
abbrev pub base_clauses : List Named → List (List Lit)
base_clauses base = map (λ n. n.clause) base

-- the clauses of a base and of steps over it
abbrev pub clauses_of : List Named → List Step → List (List Lit)
clauses_of base steps = base_clauses base ++ map (λ s. s.clause) steps

-- P holds of each element in turn, after those before it
abbrev pub InTurn : {X : Type 0} → (List X → X → Type 0) → List X → List X → Type 0
InTurn P before [] = Unit {0}
InTurn P before (x ∷ xs) = P before x × InTurn P (before ++ x ∷ []) xs

-- the step's hints show its clause from the clauses that `find` gives and the steps before it
abbrev pub IsStepAfter : (Ref → Option (List Lit)) → List Step → Step → Type 0
IsStepAfter find before step = IsStep same_lit opposite (with_own find before) step.clause step.hints

-- each step is one over the clauses that `find` gives and the steps before it
abbrev pub IsChain : (Ref → Option (List Lit)) → List Step → Type 0
IsChain find steps = InTurn (IsStepAfter find) [] steps

-- a learned step: it is one over the base and the steps before it, and its clause is new over their clauses
pub record IsLearned (base : List Named) (before : List Step) (learned : Step) : Type 0 where
  pub step : IsStepAfter (base_clause base) before learned
  pub new : IsNew same_lit opposite (clauses_of base before) learned.clause

-- each step of the log was learned after those before it
abbrev pub IsLog : List Named → List Step → Type 0
IsLog base log = InTurn (IsLearned base) [] log

-- the log of a whole budget: as many learned steps as the budget has units
pub record IsBudgetLog (base : List Named) (budget : ℕ) (log : List Step) : Type 0 where
  pub whole : length log ≡ budget
  pub learned : IsLog base log
