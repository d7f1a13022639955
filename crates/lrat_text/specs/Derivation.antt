-- What the steps of a proof derive from a formula (LRAT, Cruz-Filipe et al. 2017), read strictly. The formula's clauses
-- have the ids 1, 2, .. in order. An addition has to be a step over the clauses that are live, and its clause becomes
-- live under its id. A deletion takes ids away; one that isn't live changes nothing.
use Rattle.std.specs.Prelude.{◌≡◌, ℕ, ◌-◌, Bool, true, false, List, [], ◌∷◌, Option, Some, None, ◌==◌, if◌then◌else◌}
use Rattle.std.specs.List.{list_any, slice_get}
use Rattle.lits.specs.Dimacs.{DimacsLiteral}
use Rattle.lits.specs.Same.{same_dim, opposite_dim}
use Rattle.unit_prop.specs.Step.{first_fault}
use Rattle.unit_prop.specs.declared.why.BadStep.{BadStep}
use Rattle.lrat_text.specs.declared.step.Line.{Line}
use Rattle.lrat_text.specs.declared.step.LratStep.{LratStep}
use Rattle.lrat_text.specs.declared.step.LratStep.TheVariants.{Add, Del}
use Rattle.tokens.specs.Words.{is_empty}

-- the clauses that are live, by their ids
abbrev pub Live : Type 0
Live = ℕ → Option (List DimacsLiteral)

-- at first those of the formula
abbrev pub formula_live : List (List DimacsLiteral) → Live
formula_live formula id = if id == 0 then None else slice_get formula (id - 1)

-- what is live after a step
abbrev pub after_step : Live → LratStep → Live
after_step live (Add id clause hints) name = if name == id then Some clause else live name
after_step live (Del ids) name = if list_any (λ id. id == name) ids then None else live name

-- and after the steps of some lines
abbrev pub live_after : Live → List Line → Live
live_after live [] = live
live_after live (line ∷ lines) = live_after (after_step live line.step) lines

-- the first fault of an addition; a deletion has none
abbrev pub fault_over : Live → LratStep → Option BadStep
fault_over live (Add id clause hints) = first_fault same_dim opposite_dim live clause hints
fault_over live (Del ids) = None

-- each step is one over the clauses that are live then
abbrev pub DerivesFrom : Live → List Line → Type 0
DerivesFrom live [] = Unit {0}
DerivesFrom live (line ∷ lines) =
    (fault_over live line.step ≡ None) × DerivesFrom (after_step live line.step) lines

abbrev pub Derives : List (List DimacsLiteral) → List Line → Type 0
Derives formula lines = DerivesFrom (formula_live formula) lines

-- whether the step adds the empty clause
abbrev pub adds_empty : LratStep → Bool
adds_empty (Add id clause hints) = is_empty clause
adds_empty (Del ids) = false

-- the lines refute the formula: they derive, and the empty clause is among what they add
pub record Refutes (formula : List (List DimacsLiteral)) (lines : List Line) : Type 0 where
  pub derives : Derives formula lines
  pub empty : list_any (λ line. adds_empty line.step) lines ≡ true
