-- What a checker's verdict says of a formula and the lines of a proof.
use Rattle.std.specs.Prelude.{◌≡◌, ℕ, false, List, ◌∷◌, ◌++◌, Some}
use Rattle.std.specs.List.{list_any}
use Rattle.lits.specs.Dimacs.{DimacsLiteral}
use Rattle.unit_prop.specs.declared.why.BadStep.{BadStep}
use Rattle.lrat_text.specs.declared.step.Line.{Line}
use Rattle.lrat_text.specs.Derivation.{formula_live, live_after, fault_over, Derives, adds_empty, Refutes}
use Rattle.lrat_checker.specs.declared.verdict.Verdict.{Verdict}
use Rattle.lrat_checker.specs.declared.verdict.Verdict.TheVariants.{Refuted, NoEmpty, Bad}

-- each line is a step, and none adds the empty clause
pub record DerivesNoEmpty (formula : List (List DimacsLiteral)) (lines : List Line) : Type 0 where
  pub derives : Derives formula lines
  pub no_empty : list_any (λ line. adds_empty line.step) lines ≡ false

-- The first line that is no step is that of this number, with this first fault: the lines before it derive. Lines
-- behind it aren't judged.
pub record FirstBad (formula : List (List DimacsLiteral)) (lines : List Line) (number : ℕ) (bad : BadStep) : Type 0 where
  pub before : List Line
  pub line : Line
  pub behind : List Line
  pub whole : lines ≡ before ++ line ∷ behind
  pub derives : Derives formula before
  pub fault : fault_over (live_after (formula_live formula) before) line.step ≡ Some bad
  pub numbered : line.at ≡ number

-- the verdict is right
abbrev pub IsVerdict : List (List DimacsLiteral) → List Line → Verdict → Type 0
IsVerdict formula lines Refuted = Refutes formula lines
IsVerdict formula lines NoEmpty = DerivesNoEmpty formula lines
IsVerdict formula lines (Bad number bad) = FirstBad formula lines number bad
