-- Proof texts in the format LRAT (Cruz-Filipe, Heule, Hunt, Kaufmann and Schneider-Kamp 2017).
--
-- A text is its lines, ended by LF or by its end and counted from 1. A line is its words, with one or more spaces
-- between, and a line without words says nothing. A line whose second word is `d` deletes clauses: any number, `d`,
-- their ids, 0. Any other line adds a clause: its id, its literals, 0, its hints, 0.
--
-- The first fault of a text is that of its first line that has one. Of a line it is, in this order: a word that is no
-- number, or one that its place doesn't allow (BadNumber); a missing 0 (Truncated); an id that isn't above those before
-- it, the formula's clauses having the ids from 1 to m (Order); a negative hint (Rat).
use Rattle.std.specs.Prelude.{◌≡◌, ℕ, ◌+◌, Bool, true, false, not, ◌&&◌, List, [], ◌∷◌, map, drop, Option, Some, None, ok_or, Result, Ok, Err, nat_lt, ◌==◌, if◌then◌else◌}
use Rattle.std.specs.List.{list_any, list_all}
use Rattle.std.specs.Global.{Vec}
use Rattle.lrat_text.specs.declared.error.LratErr.{LratErr}
use Rattle.lrat_text.specs.declared.error.LratErr.TheVariants.{BadNumber, Truncated, Order, Rat, NoMemory}
use Rattle.lrat_text.specs.declared.step.Line.{Line}
use Rattle.lrat_text.specs.declared.step.LratStep.{LratStep}
use Rattle.lrat_text.specs.declared.step.LratStep.TheVariants.{Add, Del}
use Rattle.lrat_text.specs.Numbers.{is_zero, is_id, literal_of, up_to_zero, past_zero, in_place}
use Rattle.lrat_text.specs.Steps.{id_after}
use Rattle.tokens.specs.declared.number.Number.{Number}
use Rattle.tokens.specs.Numbers.{number_in, numbers_in}
use Rattle.tokens.specs.Reading.{◌>>=◌, GivesUnless}
use Rattle.tokens.specs.Words.{is_empty, is_space, lines_in, words_by}

-- what a line says where its numbers fit, its zeros are there, its id rises and its hints have no sign
abbrev pub judged : {A : Type 0} → ℕ → Bool → Bool → Bool → Bool → A → Result A LratErr
judged at fit ended rises plain said =
    if not fit then Err (BadNumber at)
    else if not ended then Err (Truncated at)
    else if not rises then Err (Order at)
    else if not plain then Err (Rat at)
    else Ok said

-- the addition of line `at` with this id, of the numbers behind it; the ids so far are up to `last`
abbrev pub addition : ℕ → ℕ → Number → List Number → Result LratStep LratErr
addition at last id ns =
    let hints = up_to_zero (past_zero ns) in
    judged at (is_id id && in_place ns) (list_any is_zero ns && list_any is_zero (past_zero ns))
    (nat_lt last id.size)
    (not (list_any (λ n. n.minus) hints))
    (Add id.size (map literal_of (up_to_zero ns)) (map (λ n. n.size) hints))

-- the deletion of line `at`, of the numbers behind its `d`
abbrev pub deletion : ℕ → List Number → Result LratStep LratErr
deletion at ns =
    judged at (list_all is_id (up_to_zero ns) && is_empty (past_zero ns))
    (list_any is_zero ns) true true
    (Del (map (λ n. n.size) (up_to_zero ns)))

-- a line's words, which should all be numbers
abbrev pub numeric : ℕ → List (List ℕ) → Result (List Number) LratErr
numeric at words = ok_or (numbers_in words) (BadNumber at)

-- the addition that the words behind its id spell, and the deletion that those behind its `d` spell
abbrev pub addition_in : ℕ → ℕ → Number → List (List ℕ) → Result LratStep LratErr
addition_in at last id words = numeric at words >>= addition at last id

abbrev pub deletion_in : ℕ → List (List ℕ) → Result LratStep LratErr
deletion_in at words = numeric at words >>= deletion at

-- whether the first of the words is `d`
abbrev pub begins_d : List (List ℕ) → Bool
begins_d ((b ∷ []) ∷ words) = b == 100
begins_d words = false

-- the step of line `at`, of its first number and the words behind it
abbrev pub step_behind : ℕ → ℕ → Number → List (List ℕ) → Result LratStep LratErr
step_behind at last first words =
    if begins_d words then deletion_in at (drop 1 words) else addition_in at last first words

-- what line `at` says, of its words: a step, or nothing
abbrev pub step_of : ℕ → ℕ → List (List ℕ) → Result (Option LratStep) LratErr
step_of at last [] = Ok None
step_of at last (word ∷ words) = do
  first ← ok_or (number_in word) (BadNumber at)
  step ← step_behind at last first words
  Ok (Some step)

abbrev pub words_in : List ℕ → List (List ℕ)
words_in line = words_by is_space line

-- the last id behind a line that says this
abbrev pub id_behind : ℕ → Option LratStep → ℕ
id_behind last None = last
id_behind last (Some step) = id_after last step

-- steps, and in front of them what line `at` says
abbrev pub with_step : ℕ → Option LratStep → List Line → List Line
with_step at None lines = lines
with_step at (Some step) lines = record { at = at; step = step } ∷ lines

-- the steps of some lines, the first of which is line `at`
abbrev pub steps_from : ℕ → ℕ → List (List ℕ) → Result (List Line) LratErr
steps_from at last [] = Ok []
steps_from at last (line ∷ lines) = do
  step ← step_of at last (words_in line)
  steps ← steps_from (at + 1) (id_behind last step) lines
  Ok (with_step at step steps)

-- The steps that a text spells, or its first fault.
abbrev pub steps_in : ℕ → List ℕ → Result (List Line) LratErr
steps_in m text = steps_from 1 m (lines_in text)

-- the text is a proof text of these steps
abbrev pub SpellsLrat : ℕ → List ℕ → List Line → Type 0
SpellsLrat m text lines = steps_in m text ≡ Ok lines

-- what was answered, its lines as a list
abbrev pub listed : Result (Vec Line) LratErr → Result (List Line) LratErr
listed (Ok lines) = Ok lines.items
listed (Err e) = Err e

-- whether memory was refused
abbrev pub is_refusal : LratErr → Bool
is_refusal NoMemory = true
is_refusal error = false

-- the answer is what is read, unless memory was refused
abbrev pub Gives : {A : Type 0} → Result A LratErr → Result A LratErr → Type 0
Gives answer read = GivesUnless is_refusal answer read
