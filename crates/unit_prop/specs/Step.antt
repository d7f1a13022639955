-- Steps of a proof by unit propagation with hints (LRAT, Cruz-Filipe, Heule, Hunt, Kaufmann and Schneider-Kamp 2017),
-- read strictly: each hint but the last gives exactly one new literal, and the last one is wholly false.
-- `find` gives the clause of a name, if there is one.
use Rattle.std.specs.Prelude.{◌≡◌, ℕ, ◌+◌, Bool, true, false, List, [], ◌∷◌, ◌++◌, map, filter, not, Option, Some, None, Result, Ok, Err, if◌then◌else◌}
use Rattle.std.specs.List.{list_any}
use Rattle.lits.specs.Clause.{has, has_pair, firsts}
use Rattle.lits.specs.Assignment.{Holds}
use Rattle.unit_prop.specs.declared.why.Why.{Why}
use Rattle.unit_prop.specs.declared.why.Why.TheVariants.{Tautology, NoClause, Satisfied, TwoFree, AfterFalse, NotFalse}
use Rattle.unit_prop.specs.declared.why.BadStep.{BadStep}
use Rattle.unit_prop.specs.declared.why.StepErr.{StepErr}
use Rattle.unit_prop.specs.declared.why.StepErr.TheVariants.{Bad, NoMemory}

-- where a step stands: the literals that are true, and whether a hint was wholly false
pub record State (L : Type 0) : Type 0 where
  pub set : List L
  pub clashed : Bool

-- at the start the negations of the clause's literals are true, each once
abbrev pub start_of : {L : Type 0} → (L → L → Bool) → (L → L) → List L → State L
start_of eq opposite clause = record { set = map opposite (firsts eq clause); clashed = false }

-- the literals of the clause that aren't false, each once
abbrev pub open_in : {L : Type 0} → (L → L → Bool) → (L → L) → List L → List L → List L
open_in eq opposite set clause = firsts eq (filter (λ l. not (has eq set (opposite l))) clause)

-- some literal of the clause is true
abbrev pub is_satisfied : {L : Type 0} → (L → L → Bool) → List L → List L → Bool
is_satisfied eq set clause = list_any (has eq set) clause

-- what the literals that aren't false make of the state
abbrev pub after_open : {L : Type 0} → List L → List L → Result (State L) Why
after_open set [] = Ok (record { set = set; clashed = true })
after_open set (l ∷ []) = Ok (record { set = set ++ l ∷ []; clashed = false })
after_open set (l ∷ m ∷ ls) = Err TwoFree

-- the state after a hint of that clause, or its fault
abbrev pub after_hint : {L : Type 0} → (L → L → Bool) → (L → L) → State L → List L → Result (State L) Why
after_hint eq opposite s clause =
    if s.clashed then Err AfterFalse
    else if is_satisfied eq s.set clause then Err Satisfied
    else after_open s.set (open_in eq opposite s.set clause)

-- the same where the hint's name may have no clause
abbrev pub after_found : {L : Type 0} → (L → L → Bool) → (L → L) → State L → Option (List L) → Result (State L) Why
after_found eq opposite s None = Err NoClause
after_found eq opposite s (Some clause) = after_hint eq opposite s clause

-- goes on from the state, or stops at the fault of the hint at that place
abbrev pub go_on : {L : Type 0} → Result (State L) Why → ℕ → (State L → Option BadStep) → Option BadStep
go_on (Ok s) place rest = rest s
go_on (Err why) place rest = Some (record { hint = place; why = why })

-- the first fault of the hints, which stand from that place on
abbrev pub fault_from : {N L : Type 0} → (L → L → Bool) → (L → L) → (N → Option (List L)) → ℕ → State L → List N → Option BadStep
fault_from eq opposite find place s [] = if s.clashed then None else Some (record { hint = 0; why = NotFalse })
fault_from eq opposite find place s (n ∷ ns) =
    go_on (after_found eq opposite s (find n)) place (λ t. fault_from eq opposite find (place + 1) t ns)

-- the first fault of a step, with the place of its hint from 1, or 0 where the fault is of no hint
abbrev pub first_fault : {N L : Type 0} → (L → L → Bool) → (L → L) → (N → Option (List L)) → List L → List N → Option BadStep
first_fault eq opposite find clause hints =
    if has_pair eq opposite clause then Some (record { hint = 0; why = Tautology })
    else fault_from eq opposite find 1 (start_of eq opposite clause) hints

-- the hints show the clause from the clauses that `find` gives
abbrev pub IsStep : {N L : Type 0} → (L → L → Bool) → (L → L) → (N → Option (List L)) → List L → List N → Type 0
IsStep eq opposite find clause hints = first_fault eq opposite find clause hints ≡ None

-- each clause that `find` gives holds under v
abbrev pub AllHold : {N L : Type 0} → (L → Bool) → (N → Option (List L)) → Type 0
AllHold {N} {L} v find = (n : N) (c : List L) → find n ≡ Some c → Holds v c

-- P holds of the fault, where it is one of the step
abbrev pub IfBad : StepErr → (Why → Type 0) → Type 0
IfBad (Bad why) P = P why
IfBad NoMemory P = Unit {0}
