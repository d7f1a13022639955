-- What is said of a formula and the text of a proof: that of the lines that it spells, or the text's first fault. A fault
-- of form comes before a line that is no step, wherever both stand.
use Rattle.std.specs.Prelude.{ℕ, List, length, Option, Some, None, Result, Ok, Err}
use Rattle.lits.specs.Dimacs.{DimacsLiteral}
use Rattle.lrat_text.specs.declared.error.LratErr.{LratErr}
use Rattle.lrat_text.specs.declared.step.Line.{Line}
use Rattle.lrat_text.specs.Reading.{steps_in, SpellsLrat, Gives}
use Rattle.lrat_checker.specs.declared.verdict.Verdict.{Verdict}
use Rattle.lrat_checker.specs.Verdict.{IsVerdict}

-- the text spells lines of a proof, of which the verdict is right
pub record IsVerdictOfText (formula : List (List DimacsLiteral)) (text : List ℕ) (verdict : Verdict) : Type 0 where
  pub lines : List Line
  pub spells : SpellsLrat (length formula) text lines
  pub right : IsVerdict formula lines verdict

-- The verdict on a text, or its first fault.
abbrev pub JudgesText : List (List DimacsLiteral) → List ℕ → Result Verdict LratErr → Type 0
JudgesText formula text (Ok verdict) = IsVerdictOfText formula text verdict
JudgesText formula text (Err e) = Gives (Err e) (steps_in (length formula) text)

-- the same, or nothing
abbrev pub JudgesTextIfAny : List (List DimacsLiteral) → List ℕ → Result (Option Verdict) LratErr → Type 0
JudgesTextIfAny formula text (Ok None) = Unit {0}
JudgesTextIfAny formula text (Ok (Some verdict)) = IsVerdictOfText formula text verdict
JudgesTextIfAny formula text (Err e) = Gives (Err e) (steps_in (length formula) text)
