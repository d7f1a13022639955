-- A proof text that is read line by line: what is left of it, and what the next line makes of that.
use Rattle.std.specs.Prelude.{◌≡◌, ◌⊎◌, ℕ, ◌+◌, ◌<◌, ◌≤◌, ◌^◌, List, [], ◌∷◌, ◌++◌, length, Option, Some, None, Result, Ok, Err}
use Rattle.byte_scan.specs.Scanning.{Place}
use Rattle.lrat_text.specs.declared.error.LratErr.{LratErr}
use Rattle.lrat_text.specs.declared.error.LratErr.TheVariants.{BadNumber, Truncated, Order, Rat, NoMemory}
use Rattle.lrat_text.specs.declared.step.Line.{Line}
use Rattle.lrat_text.specs.declared.step.LratStep.{LratStep}
use Rattle.lrat_text.specs.Reading.{step_of, steps_from, id_behind, words_in, Gives}
use Rattle.lrat_text.specs.Steps.{id_after, last_id}
use Rattle.tokens.specs.Reading.{◌>>=◌}
use Rattle.tokens.specs.Words.{lines_in}

-- a text from a line on: how many lines lie behind, the id of the last addition in them, and the bytes that are left
pub record Rest : Type 0 where
  pub behind : ℕ
  pub last : ℕ
  pub bytes : List ℕ

-- The steps that are left, or their first fault.
abbrev pub steps_left : Rest → Result (List Line) LratErr
steps_left rest = steps_from (rest.behind + 1) rest.last (lines_in rest.bytes)

-- a line, and behind it those that are read
abbrev pub in_front : Line → Result (List Line) LratErr → Result (List Line) LratErr
in_front line read = read >>= λ lines. Ok (line ∷ lines)

-- the whole of a text, for a formula of m clauses
abbrev pub whole_text : ℕ → List ℕ → Rest
whole_text m bytes = record { behind = 0; last = m; bytes = bytes }

-- a line that says a step, with the lines behind it, if there is one; or the fault of a line
abbrev pub Found : Type 0
Found = Result (Option (Line × List (List ℕ))) LratErr

-- what is found in line `at`, or behind it where it says nothing
abbrev pub found_at : ℕ → List (List ℕ) → Found → Option LratStep → Found
found_at at lines later None = later
found_at at lines later (Some step) = Ok (Some (record { at = at; step = step }, lines))

-- The first of some lines, from number `at` on, that says a step or has a fault, whatever stands behind it.
abbrev pub next_from : ℕ → ℕ → List (List ℕ) → Found
next_from at last [] = Ok None
next_from at last (line ∷ lines) =
    step_of at last (words_in line) >>= found_at at lines (next_from (at + 1) last lines)

abbrev pub next_left : Rest → Found
next_left rest = next_from (rest.behind + 1) rest.last (lines_in rest.bytes)

-- the lines of these bytes; where none is left there are no bytes
abbrev pub AreLeft : List (List ℕ) → List ℕ → Type 0
AreLeft lines bytes = ((lines ≡ []) × (bytes ≡ [])) ⊎ (lines ≡ lines_in bytes)

-- the line is the next one that says a step, and what is left are the lines behind it
pub record IsNext (line : Line) (old new : Rest) : Type 0 where
  pub lines : List (List ℕ)
  pub next : next_left old ≡ Ok (Some (line, lines))
  pub left : AreLeft lines new.bytes
  pub behind : new.behind ≡ line.at
  pub last : new.last ≡ id_after old.last line.step
  pub fewer : length new.bytes < length old.bytes

-- the fault is one of line `at`; memory may be refused for any line
abbrev pub IsOf : ℕ → LratErr → Type 0
IsOf at (BadNumber n) = n ≡ at
IsOf at (Truncated n) = n ≡ at
IsOf at (Order n) = n ≡ at
IsOf at (Rat n) = n ≡ at
IsOf at NoMemory = Unit {0}

-- Lines are read up to one that has the fault, or for which memory was refused. Those before it say these steps, and what is
-- left are the lines behind it.
pub record StopsAt (e : LratErr) (steps : List Line) (old new : Rest) : Type 0 where
  pub before : List (List ℕ)
  pub later : List (List ℕ)
  pub line : List ℕ
  pub lines : lines_in old.bytes ≡ before ++ line ∷ later
  pub said : steps_from (old.behind + 1) old.last before ≡ Ok steps
  pub fault : IsOf new.behind e
  pub left : AreLeft later new.bytes
  pub behind : new.behind ≡ old.behind + length before + 1
  pub last : new.last ≡ last_id old.last steps
  pub fewer : length new.bytes < length old.bytes

-- What the next line is; or none is left, and no bytes are; or its fault, behind which the later lines are left.
abbrev pub GivesNext : Result (Option Line) LratErr → Rest → Rest → Type 0
GivesNext (Ok (Some line)) old new = IsNext line old new
GivesNext (Ok None) old new = (next_left old ≡ Ok None) × (new.bytes ≡ [])
GivesNext (Err e) old new = Gives (Err e) (next_left old) × StopsAt e [] old new

-- what is read has no fault
abbrev pub HasForm : Result (List Line) LratErr → Type 0
HasForm (Ok lines) = Unit {0}
HasForm (Err e) = ⊥

-- what is read has no fault, or this first one
abbrev pub GivesForm : Result (Unit {0}) LratErr → Result (List Line) LratErr → Type 0
GivesForm (Ok u) read = HasForm read
GivesForm (Err e) read = Gives (Err e) read

-- the rest behind what its next line says
abbrev pub behind_said : Rest → Option LratStep → Rest
behind_said rest said = record { behind = rest.behind; last = id_behind rest.last said; bytes = rest.bytes }

-- the rest behind its next line, without what that says
pub record IsNextLine (line : List ℕ) (old new : Rest) : Type 0 where
  pub behind : new.behind ≡ old.behind + 1
  pub last : new.last ≡ old.last
  pub fewer : length new.bytes < length old.bytes
  pub lines :
      ((lines_in old.bytes ≡ line ∷ []) × (new.bytes ≡ []))
      ⊎ (lines_in old.bytes ≡ line ∷ lines_in new.bytes)

-- each line behind took a byte at least
abbrev pub AreBehind : ℕ → Place → Type 0
AreBehind count p = (count ≤ p.at) × (p.at ≤ length p.bytes) × (length p.bytes < 2 ^ 64)
