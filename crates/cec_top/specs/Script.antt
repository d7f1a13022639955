-- What an edit script asks for: checks of the circuits as its lines leave them, up to the first line that is refused.
use Rattle.std.specs.Prelude.{ℕ, ◌+◌, List, [], ◌∷◌, ◌++◌, Option, None, Some}
use Rattle.netlist.specs.Net.{AigPair}
use Rattle.netlist_edits.specs.declared.edit.Edit.{Edit}
use Rattle.netlist_edits.specs.declared.edit.Command.{Command}
use Rattle.netlist_edits.specs.declared.edit.Command.TheVariants as command
use Rattle.netlist_edits.specs.declared.error.EditErr.{EditErr}
use Rattle.netlist_edits.specs.declared.error.EditErr.TheVariants.{BadLine}
use Rattle.netlist_edits.specs.Edited.{edited}
use Rattle.netlist_edits.specs.Fault.{fault_of}
use Rattle.netlist_edits.specs.Line.{spelled_in}

-- ---- what is asked for

-- A check that is asked for: its circuits, and the edits since the check before it. Check 0 has none.
pub record Due : Type 0 where
  pub net : AigPair
  pub edits : List Edit

-- a line that is refused: its number, counted from 1, and its fault
pub record Refused : Type 0 where
  pub line : ℕ
  pub fault : EditErr

-- the checks that are asked for, in order, and the line behind the last of them that is refused, if there is one
pub record Plan : Type 0 where
  pub checks : List Due
  pub refused : Option Refused

abbrev pub nothing_more : Plan
nothing_more = record { checks = []; refused = None }

abbrev pub with_check : Due → Plan → Plan
with_check due plan = record { checks = due ∷ plan.checks; refused = plan.refused }

-- ---- a line

-- what a line comes to, over the circuits as they are: nothing, an edit of them, a check of them, or a fault
pub data Turn : Type 0 where
  Passes : Turn
  Makes : Edit → Turn
  AsksCheck : Turn
  Fails : EditErr → Turn

-- an edit is made where it has no fault
abbrev pub turn_of_edit : Edit → Option EditErr → Turn
turn_of_edit edit None = Makes edit
turn_of_edit edit (Some fault) = Fails fault

-- by what the line spells: none of the forms of a line, nothing, an edit, or `check`
abbrev pub turn_of_spelled : AigPair → Option (Option Command) → Turn
turn_of_spelled net None = Fails BadLine
turn_of_spelled net (Some None) = Passes
turn_of_spelled net (Some (Some (command.Edit edit))) = turn_of_edit edit (fault_of net edit)
turn_of_spelled net (Some (Some command.Check)) = AsksCheck

abbrev pub turn_of : AigPair → List ℕ → Turn
turn_of net line = turn_of_spelled net (spelled_in line)

-- ---- the lines

-- what would be checked after one edit more
abbrev pub due_after : Due → Edit → Due
due_after due edit = record { net = edited due.net edit; edits = due.edits ++ edit ∷ [] }

-- what would be checked right behind a check of these circuits
abbrev pub due_behind : AigPair → Due
due_behind net = record { net = net; edits = [] }

-- By what the line with this number comes to, where a check right before it would be that one: an edit goes to what is checked
-- next, `check` asks for it, and behind a line that is refused nothing is asked for. `rest` is what the later lines ask for.
abbrev pub asked_by : ℕ → Due → Turn → (Due → Plan) → Plan
asked_by number due Passes rest = rest due
asked_by number due (Makes edit) rest = rest (due_after due edit)
asked_by number due AsksCheck rest = with_check due (rest (due_behind due.net))
asked_by number due (Fails fault) rest = record { checks = []; refused = Some (record { line = number; fault = fault }) }

-- what lines ask for, the first of which has this number
abbrev pub asked_from : ℕ → Due → List (List ℕ) → Plan
asked_from number due [] = nothing_more
asked_from number due (line ∷ lines) =
    asked_by number due (turn_of due.net line) (λ next. asked_from (number + 1) next lines)

-- What a script asks for: check 0 is of the circuits as they are, and each line `check` asks for one of the circuits as they
-- are after all edits before it. Lines behind the first that is refused aren't looked at. Edits behind the last `check` are
-- made, and may be refused, but no check is asked for.
abbrev pub plan_of : AigPair → List (List ℕ) → Plan
plan_of net lines = with_check (due_behind net) (asked_from 1 (due_behind net) lines)
