-- The table of exit statuses.
use Rattle.std.specs.Prelude.{ℕ}
use Rattle.endings.specs.declared.status.Status.{Status}
use Rattle.endings.specs.declared.status.Status.TheVariants.{Done, No, Undecided, BadUsage, BadInput, CannotRead, CannotWrite, OutOfMemory}

abbrev pub code_of : Status → ℕ
code_of Done = 0
code_of No = 1
code_of Undecided = 2
code_of BadUsage = 3
code_of BadInput = 4
code_of CannotRead = 5
code_of CannotWrite = 6
code_of OutOfMemory = 7
