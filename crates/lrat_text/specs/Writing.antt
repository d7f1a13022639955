-- The one text by which each step is written.
use Rattle.std.specs.Prelude.{◌≡◌, ℕ, ◌+◌, ◌<◌, ◌≤◌, false, List, [], ◌∷◌, ◌++◌, map, length, decimal, Ok, ◌==◌}
use Rattle.std.specs.List.{flat_map, list_any, AllByRecursion}
use Rattle.lrat_text.specs.declared.step.Line.{Line}
use Rattle.lrat_text.specs.declared.step.LratStep.{LratStep}
use Rattle.lrat_text.specs.declared.step.LratStep.TheVariants.{Add, Del}
use Rattle.lrat_text.specs.Steps.{id_after}
use Rattle.lrat_text.specs.Reading.{steps_from}
use Rattle.lrat_text.specs.Steps.{id_after}
use Rattle.tokens.specs.Text.{literal_text, spaced, joined, ended}
use Rattle.byte_scan.specs.declared.scan.TheConstants.{NUMBER_LIMIT}
pub use Rattle.tokens.specs.Text.{IsInRange}

-- the words of a step behind its first one
abbrev pub words_of : LratStep → List (List ℕ)
words_of (Add id clause hints) =
    map literal_text clause ++ ((48 ∷ []) ∷ (map decimal hints ++ (48 ∷ []) ∷ []))
words_of (Del ids) = (100 ∷ []) ∷ (map decimal ids ++ (48 ∷ []) ∷ [])

-- the step in a line, without its end: an addition is `id literals 0 hints 0`, and a deletion `last d ids 0`, where
-- `last` is by convention the last addition's id
abbrev pub step_text : ℕ → LratStep → List ℕ
step_text last step = joined (decimal (id_after last step) ∷ words_of step)

abbrev pub line_text : ℕ → LratStep → List ℕ
line_text last step = ended (step_text last step)

-- the ids at the end of a line, and its end
abbrev pub ended_ids : List ℕ → List ℕ
ended_ids ids = spaced (map decimal ids) ++ 32 ∷ 48 ∷ 10 ∷ []

-- The text of some steps, each in a line; `last` is the last addition's id before them.
abbrev pub text_from : ℕ → List LratStep → List ℕ
text_from last [] = []
text_from last (step ∷ steps) = line_text last step ++ text_from (id_after last step) steps

-- the steps with the numbers of their lines, from that number on
abbrev pub numbered : ℕ → List LratStep → List Line
numbered at [] = []
numbered at (step ∷ steps) = record { at = at; step = step } ∷ numbered (at + 1) steps

-- an id, from 1 to below the limit of numbers, 10 ^ 18
abbrev pub IsId : ℕ → Type 0
IsId id = (1 ≤ id) × (id < NUMBER_LIMIT)

-- what the text of a step can say behind additions with ids up to `last`
abbrev pub IsWritable : ℕ → LratStep → Type 0
IsWritable last (Add id clause hints) =
    (last < id) × (id < NUMBER_LIMIT) × AllByRecursion IsInRange clause × AllByRecursion IsId hints
IsWritable last (Del ids) = AllByRecursion IsId ids

-- the same of some steps, one behind the other: ids of additions rise
abbrev pub AreWritable : ℕ → List LratStep → Type 0
AreWritable last [] = Unit {0}
AreWritable last (step ∷ steps) = IsWritable last step × AreWritable (id_after last step) steps

-- the literals of a step are in the range of DIMACS
abbrev pub LiteralsFit : LratStep → Type 0
LiteralsFit (Add id clause hints) = AllByRecursion IsInRange clause
LiteralsFit (Del ids) = Unit {0}

-- The text is one line for each of the steps, each ended by LF.
pub record IsWritten (m : ℕ) (text : List ℕ) (lines : List Line) : Type 0 where
  pub texts : List (List ℕ)
  pub whole : text ≡ flat_map ended texts
  pub single : list_any (list_any (λ b. b == 10)) texts ≡ false
  pub spells : steps_from 1 m texts ≡ Ok lines
  pub count : length texts ≡ length lines
