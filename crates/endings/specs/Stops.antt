-- The one way in which each command ends without a verdict: a cause, its line on standard error, its exit status.
use Rattle.std.specs.Prelude.{◌≡◌, ◌⊎◌, ℕ, List, [], ◌++◌, codes, slice_index_or, string_bytes}
use Rattle.desk_port.specs.Desk.{DeskState, WarnFault, OfSomePrefix, after_warn}
use Rattle.desk_port.specs.declared.errors.PutErr.{PutErr}
use Rattle.desk_port.specs.declared.errors.PutErr.TheVariants as not_put
use Rattle.endings.specs.declared.status.Status.{Status}
use Rattle.endings.specs.declared.status.Status.TheVariants as status
use Rattle.endings.specs.declared.stop.Stop.{Stop}
use Rattle.endings.specs.declared.stop.Stop.TheVariants.{CannotRead, TooLong, BadFile, NotAlike, CannotWrite, OutOfMemory}

-- the exit status that goes with a cause
abbrev pub status_of : Stop → Status
status_of (CannotRead file) = status.CannotRead
status_of (TooLong file) = status.BadInput
status_of (BadFile file text) = status.BadInput
status_of (NotAlike text) = status.BadInput
status_of CannotWrite = status.CannotWrite
status_of OutOfMemory = status.OutOfMemory

-- what a call of the desk that puts bytes may answer
abbrev pub stop_of_put : PutErr → Stop
stop_of_put not_put.Failed = CannotWrite
stop_of_put not_put.NoMemory = OutOfMemory

-- the line of a fault that is of no file
abbrev pub fault_line : List ℕ → List ℕ
fault_line text = codes "cec: " ++ text ++ codes "\n"

-- the line of a fault of the named file
abbrev pub file_line : List ℕ → List ℕ → List ℕ
file_line name text = codes "cec: " ++ name ++ codes ": " ++ text ++ codes "\n"

-- the name of a file, of those that the command reads
abbrev pub name_at : List (List ℕ) → ℕ → List ℕ
name_at names file = slice_index_or names file []

-- the line of a cause, where the files that the command reads have these names
unfoldable pub stop_line : List (List ℕ) → Stop → List ℕ
stop_line names (CannotRead file) = file_line (name_at names file) (codes "cannot read")
stop_line names (TooLong file) = file_line (name_at names file) (codes "longer than 1073741824 bytes")
stop_line names (BadFile file text) = file_line (name_at names file) (string_bytes text)
stop_line names (NotAlike text) = fault_line (string_bytes text)
stop_line names CannotWrite = fault_line (codes "cannot write")
stop_line names OutOfMemory = fault_line (codes "out of memory")

-- the line is warned; where the warning failed, a first part of it
abbrev pub IsWarned : DeskState → DeskState → List ℕ → Type 0
IsWarned old new line = (new ≡ after_warn old line) ⊎ OfSomePrefix line (λ part. WarnFault (after_warn old part) new)

-- the line is warned, and this status answered; or memory ran out for the line
abbrev pub Warns : List ℕ → Status → DeskState → DeskState → Status → Type 0
Warns line named old new answered = ((answered ≡ named) × IsWarned old new line) ⊎ ((answered ≡ status.OutOfMemory) × (new ≡ old))

-- A command over the files of these names ends without a verdict: it has a cause, which says in which state the desk was
-- then, and the cause's line is warned.
pub record EndsBy (names : List (List ℕ)) (Cause : DeskState → Stop → Type 0) (new : DeskState) (answered : Status) : Type 0 where
  pub stop : Stop
  pub mid : DeskState
  pub cause : Cause mid stop
  pub warns : Warns (stop_line names stop) (status_of stop) mid new answered
