-- The entries of a file as far as it is read.
use Rattle.std.specs.Prelude.{◌≡◌, ℕ, Option, None, Some, List, [], ◌∷◌, ◌++◌, Result, Ok}
use Rattle.lits.specs.declared.step.Step.{Step}
use Rattle.lemma_book.specs.declared.entry.Entry.{Entry}
use Rattle.lemma_book.specs.declared.entry.Entry.TheVariants as entry
use Rattle.tokens.specs.Reading.{◌>>=◌}
use Rattle.tokens.specs.Words.{lines_in}
use Rattle.book_file.specs.declared.error.BookErr.{BookErr}
use Rattle.book_file.specs.declared.error.BookErr.TheVariants.{BadLine, NoMemory}
use Rattle.book_file.specs.declared.said.Said.{Said}
use Rattle.book_file.specs.declared.said.Said.TheVariants as said
use Rattle.book_file.specs.declared.reading.About.{About}
use Rattle.book_file.specs.declared.reading.About.TheVariants.{Merge, Out}
use Rattle.book_file.specs.declared.reading.Open.{Open}
use Rattle.book_file.specs.declared.reading.Draft.{Draft}
use Rattle.book_file.specs.Lines.{said_in}
use Rattle.book_file.specs.Reading.{Due, AnEntry, AStep, MoreSteps, due_behind, Spelled, with_line, spelled_from, entries_in}

-- the entry about this, with these steps
abbrev pub entry_of : About → List Step → Entry
entry_of (Merge node lit) steps = entry.Merge node lit steps
entry_of (Out j) steps = entry.Out j steps

-- the first line of the entry about this
abbrev pub said_about : About → Said
said_about (Merge node lit) = said.Merge node lit
said_about (Out j) = said.Out j

-- what is due behind the steps of an entry
abbrev pub due_behind_steps : List Step → Due
due_behind_steps [] = AStep
due_behind_steps (s ∷ steps) = MoreSteps

abbrev pub due_in : Option Open → Due
due_in None = AnEntry
due_in (Some current) = due_behind_steps current.steps.items

-- what is due behind the lines that are read, the file's first line among them
abbrev pub due_of : Draft → Due
due_of draft = due_in draft.current

abbrev pub entries_behind : Option Open → Spelled → List Entry
entries_behind None rest = rest.entries
entries_behind (Some current) rest = entry_of current.about (current.steps.items ++ rest.steps) ∷ rest.entries

-- all entries, where the lines that are left spell that
abbrev pub entries_with : Draft → Spelled → List Entry
entries_with draft rest = draft.ended.items ++ entries_behind draft.current rest

-- the entries, where these are the lines that are left, the first of which is line `at`
abbrev pub entries_from : Draft → ℕ → List (List ℕ) → Result (List Entry) BookErr
entries_from draft at lines = spelled_from (due_of draft) at lines >>= λ rest. Ok (entries_with draft rest)

-- one line more is read, which says this
pub record Reads (old : Draft) (said : Said) (new : Draft) : Type 0 where
  pub due : due_behind (due_of old) said ≡ Some (due_of new)
  pub entries : (rest : Spelled) → entries_with old (with_line said rest) ≡ entries_with new rest

-- one line more is read
pub record ReadsLine (old : Draft) (line : List ℕ) (new : Draft) : Type 0 where
  pub said : Said
  pub said_is : said_in line ≡ Some said
  pub reads : Reads old said new

-- line `at` can't stand there, where it says this, or memory was refused
abbrev pub Refuses : Draft → ℕ → Said → BookErr → Type 0
Refuses old at said NoMemory = Unit {0}
Refuses old at said error = (error ≡ BadLine at) × (due_behind (due_of old) said ≡ None)

-- the same, whatever the line says
abbrev pub RefusesLine : Draft → ℕ → List ℕ → BookErr → Type 0
RefusesLine old at line NoMemory = Unit {0}
RefusesLine old at line error =
    (error ≡ BadLine at) × ((said : Said) → said_in line ≡ Some said → due_behind (due_of old) said ≡ None)

-- the first line of the bytes says that a file begins, and this is behind it
abbrev pub IsBegun : List ℕ → List ℕ → Type 0
IsBegun bytes rest = entries_in bytes ≡ (spelled_from AnEntry 2 (lines_in rest) >>= λ spelled. Ok spelled.entries)
