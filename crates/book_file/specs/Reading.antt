-- The entries that the bytes of a lemma file spell.
--
-- A file is its lines, each ended by LF and counted from 1: `lemmas 1`, and then for each entry its first line, one step or more,
-- and a line `.` at its end. The first fault of the bytes is the first line that can't stand where it stands (BadLine); where no
-- line is bad, that they end where a line or its LF is still due (Truncated), by the number of that line. What stands behind the
-- last LF is no line, whatever it is.
use Rattle.std.specs.Prelude.{◌≡◌, ℕ, ◌+◌, Bool, true, false, ◌&&◌, List, [], ◌∷◌, Option, Some, None, ok_or, Result, Ok, Err, if◌then◌else◌}
use Rattle.std.specs.Global.{Vec}
use Rattle.lits.specs.declared.step.Step.{Step}
use Rattle.lemma_book.specs.declared.entry.Entry.{Entry}
use Rattle.lemma_book.specs.declared.entry.Entry.TheVariants as entry
use Rattle.tokens.specs.Reading.{◌>>=◌, GivesUnless}
use Rattle.tokens.specs.Words.{is_empty, lines_in}
use Rattle.book_file.specs.declared.error.BookErr.{BookErr}
use Rattle.book_file.specs.declared.error.BookErr.TheVariants.{BadLine, Truncated, NoMemory}
use Rattle.book_file.specs.declared.said.Said.{Said}
use Rattle.book_file.specs.declared.said.Said.TheVariants.{Header, Merge, Out, Shows, Ends}
use Rattle.book_file.specs.Lines.{said_in}

-- what is due in a file
pub data Due : Type 0 where
  -- its first line
  Opening : Due
  -- the first line of an entry, or the end of the file
  AnEntry : Due
  -- the first step of an entry
  AStep : Due
  -- one more step, or the end of the entry
  MoreSteps : Due

-- what is due behind a line that says this; none where such a line isn't due
abbrev pub due_behind : Due → Said → Option Due
due_behind Opening Header = Some AnEntry
due_behind AnEntry (Merge node lit) = Some AStep
due_behind AnEntry (Out j) = Some AStep
due_behind AStep (Shows step) = Some MoreSteps
due_behind MoreSteps (Shows step) = Some MoreSteps
due_behind MoreSteps Ends = Some AnEntry
due_behind due said = None

-- the file may end where an entry is due, and not in a line
abbrev pub may_end : Due → Bool
may_end Opening = false
may_end AnEntry = true
may_end AStep = false
may_end MoreSteps = false

-- what some lines spell: the steps up to the end of the entry that they are in, and the entries behind it
pub record Spelled : Type 0 where
  pub steps : List Step
  pub entries : List Entry

-- what is spelled with one line more in front
abbrev pub with_line : Said → Spelled → Spelled
with_line Header rest = rest
with_line (Merge node lit) rest = record { steps = []; entries = entry.Merge node lit rest.steps ∷ rest.entries }
with_line (Out j) rest = record { steps = []; entries = entry.Out j rest.steps ∷ rest.entries }
with_line (Shows step) rest = record { steps = step ∷ rest.steps; entries = rest.entries }
with_line Ends rest = record { steps = []; entries = rest.entries }

-- What lines spell, from line `at` on, the last of which isn't ended.
abbrev pub spelled_from : Due → ℕ → List (List ℕ) → Result Spelled BookErr
spelled_from due at [] = Err (Truncated at)
spelled_from due at (rest ∷ []) =
    if may_end due && is_empty rest then Ok (record { steps = []; entries = [] }) else Err (Truncated at)
spelled_from due at (line ∷ next ∷ lines) = do
  said ← ok_or (said_in line) (BadLine at)
  behind ← ok_or (due_behind due said) (BadLine at)
  rest ← spelled_from behind (at + 1) (next ∷ lines)
  Ok (with_line said rest)

-- The entries that bytes spell, or their first fault.
abbrev pub entries_in : List ℕ → Result (List Entry) BookErr
entries_in bytes = spelled_from Opening 1 (lines_in bytes) >>= λ spelled. Ok spelled.entries

-- the bytes are a lemma file of these entries
abbrev pub SpellsBook : List ℕ → List Entry → Type 0
SpellsBook bytes entries = entries_in bytes ≡ Ok entries

-- what was answered, its entries as a list
abbrev pub listed : Result (Vec Entry) BookErr → Result (List Entry) BookErr
listed (Ok entries) = Ok entries.items
listed (Err e) = Err e

-- whether memory was refused
abbrev pub is_refusal : BookErr → Bool
is_refusal NoMemory = true
is_refusal error = false

-- the answer is what is read, unless memory was refused
abbrev pub Gives : {A : Type 0} → Result A BookErr → Result A BookErr → Type 0
Gives answer read = GivesUnless is_refusal answer read
