-- One check: what it found, the files that it leaves under its number, and what it says; and checks one after another, and the file
-- that is left behind them.
use Rattle.std.specs.Prelude.{◌≡◌, ◌⊎◌, ℕ, ◌+◌, Bool, true, false, List, [], ◌∷◌, ◌++◌, length, map, option_map, codes, Option, None, Some, Result, Ok, Err, if◌then◌else◌, string_bytes}
use Rattle.std.specs.Option.{option_to_list}
use Rattle.desk_port.specs.Desk.{DeskState}
use Rattle.endings.specs.Writing.{Output, Leaves, StopsAmong}
use Rattle.endings.specs.declared.status.Status.{Status}
use Rattle.endings.specs.declared.stop.Stop.{Stop}
use Rattle.endings.specs.declared.stop.Stop.TheVariants.{BadFile, OutOfMemory}
use Rattle.endings.specs.declared.status.Status.TheVariants.{Done, No, Undecided as Open}
use Rattle.netlist.specs.Net.{AigPair}
use Rattle.lemma_book.specs.declared.entry.Entry.{Entry}
use Rattle.lemma_book.specs.Entry.{Entries}
use Rattle.lemma_book.specs.Book.{StartsWith}
use Rattle.book_file.specs.Writing.{book_text}
use Rattle.netlist_edits.specs.declared.edit.Edit.{Edit}
use Rattle.keep_lemmas.specs.Kept.{kept}
use Rattle.proof_stitch.specs.Stitch.{IsRefutation, refutation_of}
use Rattle.proof_stitch.specs.Derivation.{IsDerivation, AreSpans, derivation_of, spans_of}
use Rattle.check_session.specs.declared.options.Options.{Options}
use Rattle.check_session.specs.Finding.{Finding, Equivalent, Different, Undecided, open_outputs}
use Rattle.check_session.specs.Check.{IsSettled}
use Rattle.check_session.specs.Files.{files_of, proof_lines}
use Rattle.cec_top.specs.declared.kept.Kept.{Kept}
use Rattle.cec_top.specs.Script.{Due, Plan, Refused}
use Rattle.cec_top.specs.Lines.{refused_text}
use Rattle.cec_top.specs.Texts.{different_text, open_text, open_text_with}
use Rattle.cec_top.specs.Progress.{WarnsProgress}
use Rattle.cec_top.specs.Stats.{Reports}
use Rattle.cec_top.specs.Witness.{witness_text}

-- the status with which the program ends where the finding was said
abbrev pub status_of_finding : Finding → Status
status_of_finding Equivalent = Done
status_of_finding (Different j input) = No
status_of_finding Undecided = Open

-- how checks are made: under which numbers, with which prefix for the names of their files, if they leave any, with which file for an
-- input on which circuits differ, if one is named, and whether their statistics are warned, and how far they are
pub record How : Type 0 where
  pub options : Options
  pub out : Option (List ℕ)
  pub witness : Option (List ℕ)
  pub stats : Bool
  pub progress : Bool

-- a check that has its verdict: its circuits and the edits since the check before it, its book and what that shows
pub record Made : Type 0 where
  pub net : AigPair
  pub edits : List Edit
  pub book : Entries
  pub finding : Finding

-- the lines of its proof refute the miter, or derive from it, each log standing at the lines that are said
abbrev pub IsProof : AigPair → List Entry → Finding → Type 0
IsProof net entries Equivalent = IsRefutation net (refutation_of net entries)
IsProof net entries (Different j input) = Unit {0}
IsProof net entries Undecided = IsDerivation net (derivation_of net entries) × AreSpans net entries (spans_of net entries)

-- what is said of a finding, with that text where outputs are open
abbrev pub text_of : Finding → List ℕ → List ℕ
text_of Equivalent open_part = codes "EQUIVALENT\n"
text_of (Different j input) open_part = different_text j input
text_of Undecided open_part = open_part

-- what is said of the open outputs of a check that writes its files under the prefix, if there is one
abbrev pub open_part_of : Option (List ℕ) → AigPair → List Entry → List ℕ
open_part_of None net entries = open_text (open_outputs net entries)
open_part_of (Some prefix) net entries = open_text_with (spans_of net entries)

-- the verdict of such a check
abbrev pub verdict_text : Option (List ℕ) → AigPair → List Entry → Finding → List ℕ
verdict_text out net entries finding = text_of finding (open_part_of out net entries)

-- the text of its verdict, where it writes its files under the prefix, if there is one
abbrev pub text_of_check : Option (List ℕ) → Made → List ℕ
text_of_check out m = verdict_text out m.net m.book.entries m.finding

-- the check is right under the budgets
pub record IsMade (how : How) (m : Made) : Type 0 where
  pub settled : IsSettled m.net how.options.sweep_budget how.options.out_budget m.book m.finding
  pub proof : IsProof m.net m.book.entries m.finding

-- the files that it leaves under its number, if there is a prefix for them
abbrev pub outputs_of : Option (List ℕ) → ℕ → Made → List Output
outputs_of None number m = []
outputs_of (Some prefix) number m = files_of prefix number m.net m.book.entries m.finding

-- the file of its witness, which is left where an output differs, and nowhere else; and none, if none is named
abbrev pub witness_files : List ℕ → AigPair → Finding → List Output
witness_files name net Equivalent = []
witness_files name net (Different j input) = record { name = name; bytes = witness_text net.a input } ∷ []
witness_files name net Undecided = []

abbrev pub witness_in : Option (List ℕ) → AigPair → Finding → List Output
witness_in None net found = []
witness_in (Some name) net found = witness_files name net found

-- all files that it leaves, in the order in which they are written
abbrev pub left_of : Option (List ℕ) → Option (List ℕ) → ℕ → Made → List Output
left_of out witness number m = outputs_of out number m ++ witness_in witness m.net m.finding

-- how many lines its proof has, where it writes one
abbrev pub lines_of : Option (List ℕ) → Made → Option ℕ
lines_of None m = None
lines_of (Some prefix) m = Some (length (proof_lines m.net m.book.entries m.finding))

-- While it goes on its progress is warned, if that is asked for; then its files are left and closed, then its verdict is said, and
-- then its statistics are warned, if they are asked for; or that stops before the verdict is said whole, as the result says.
abbrev pub Tells : How → ℕ → Made → DeskState → DeskState → Result (Unit {0}) Stop → Type 0
Tells how number m old new (Ok u) =
    (begun : DeskState) × (mid : DeskState) × WarnsProgress how.progress old begun
    × Leaves (left_of how.out how.witness number m) (text_of_check how.out m) begun mid (Ok u)
    × Reports how.stats m.net m.book.entries (lines_of how.out m) mid new
Tells how number m old new (Err stop) =
    (begun : DeskState) × WarnsProgress how.progress old begun
    × Leaves (left_of how.out how.witness number m) (text_of_check how.out m) begun new (Err stop)

-- the checks from this number on are right, and each is told whole before the next begins
abbrev pub AreTold : How → ℕ → List Made → DeskState → DeskState → Type 0
AreTold how number [] old new = new ≡ old
AreTold how number (m ∷ ms) old new =
    (mid : DeskState) × IsMade how m × Tells how number m old mid (Ok tt) × AreTold how (number + 1) ms mid new

-- what a check goes on from: circuits, and a book about them. Before check 0 that is the pair with the lemmas that were loaded.
pub record Opening : Type 0 where
  pub net : AigPair
  pub book : Entries

abbrev pub behind : Made → Opening
behind m = record { net = m.net; book = m.book }

-- what a check takes over from there: its book begins with what is kept of that one over the edits between, the entries that
-- stand on nothing that was edited
abbrev pub TakesOver : Opening → Made → Type 0
TakesOver from m = StartsWith m.book (kept from.net m.edits from.book)

-- the first of these checks takes that over from there, and each other one from its neighbour
abbrev pub AreInTurn : Opening → List Made → Type 0
AreInTurn from [] = Unit {0}
AreInTurn from (m ∷ ms) = TakesOver from m × AreInTurn (behind m) ms

-- the last verdict, with whose status the program ends where all checks were told
abbrev pub last_finding : List Made → Option Finding
last_finding [] = None
last_finding (m ∷ []) = Some m.finding
last_finding (m ∷ n ∷ ms) = last_finding (n ∷ ms)

abbrev pub is_undecided : Finding → Bool
is_undecided Equivalent = false
is_undecided (Different j input) = false
is_undecided Undecided = true

-- the book that is handed back for a check
abbrev pub kept_of : ℕ → Made → Kept
kept_of number m = record { check = number; book = m.book }

-- the books that are handed back: those of the checks that left outputs open, and the last one
abbrev pub kept_from : ℕ → List Made → List Kept
kept_from number [] = []
kept_from number (m ∷ []) = kept_of number m ∷ []
kept_from number (m ∷ n ∷ ms) =
    if is_undecided m.finding then kept_of number m ∷ kept_from (number + 1) (n ∷ ms)
    else kept_from (number + 1) (n ∷ ms)

-- the books are some of those
abbrev pub AreSome : List Kept → List Kept → Type 0
AreSome [] ks = Unit {0}
AreSome (j ∷ js) [] = ⊥
AreSome (j ∷ js) (k ∷ ks) = ((j ≡ k) × AreSome js ks) ⊎ AreSome (j ∷ js) ks

-- the books that are handed back where a check breaks off: all where it couldn't write, some where memory ran out
abbrev pub KeepsOn : Stop → List Kept → List Kept → Type 0
KeepsOn OutOfMemory kept all = AreSome kept all
KeepsOn stop kept all = kept ≡ all

-- ---- the checks that are asked for

-- what was asked for where the check was made
abbrev pub due_of : Made → Due
due_of m = record { net = m.net; edits = m.edits }

-- of the checks that are asked for these are made and told, each whole before the next, the first going on from there, and the
-- others aren't begun
pub record GoesOn (how : How) (from : Opening) (plan : Plan) (old : DeskState) (made : List Made) (others : List Due) (new : DeskState) : Type 0 where
  pub checks : map due_of made ++ others ≡ plan.checks
  pub told : AreTold how 0 made old new
  pub in_turn : AreInTurn from made

-- all checks are made and told, no line is refused, and the status goes with the last one's verdict
pub record Ends (how : How) (from : Opening) (plan : Plan) (old new : DeskState) (status : Status) (kept : List Kept) : Type 0 where
  pub made : List Made
  pub whole : GoesOn how from plan old made [] new
  pub accepted : plan.refused ≡ None
  pub status_is : option_map status_of_finding (last_finding made) ≡ Some status
  pub keeps : kept ≡ kept_from 0 made

-- some checks are told whole, and the next one has its verdict and is told in part
pub record BreaksOff (how : How) (from : Opening) (plan : Plan) (old new : DeskState) (kept : List Kept) (stop : Stop) : Type 0 where
  pub made : List Made
  pub half : Made
  pub others : List Due
  pub mid : DeskState
  pub before : GoesOn how from plan old made (due_of half ∷ others) mid
  pub is_made : IsMade how half
  pub in_turn : AreInTurn from (made ++ half ∷ [])
  pub breaks : Tells how (length made) half mid new (Err stop)
  pub keeps : KeepsOn stop kept (kept_from 0 (made ++ half ∷ []))

-- memory runs out behind checks that were told, and no other has a verdict; the progress of one may be warned
pub record RunsOut (how : How) (from : Opening) (plan : Plan) (old new : DeskState) (kept : List Kept) (stop : Stop) : Type 0 where
  pub out : stop ≡ OutOfMemory
  pub made : List Made
  pub others : List Due
  pub mid : DeskState
  pub before : GoesOn how from plan old made others mid
  pub warns : WarnsProgress how.progress mid new
  pub keeps : AreSome kept (kept_from 0 made)

-- the place of the script among the files that are read
abbrev pub script_place : ℕ
script_place = 2

-- the cause is the fault of that line of the script
abbrev pub SaysFault : Refused → Stop → Type 0
SaysFault line (BadFile file why) = (file ≡ script_place) × (string_bytes why ≡ refused_text line)
SaysFault line stop = ⊥

-- all checks are made and told, and the line behind them is refused
pub record RefusesLine (how : How) (from : Opening) (plan : Plan) (old new : DeskState) (kept : List Kept) (stop : Stop) : Type 0 where
  pub made : List Made
  pub whole : GoesOn how from plan old made [] new
  pub line : Refused
  pub refused : plan.refused ≡ Some line
  pub stop_is : SaysFault line stop
  pub keeps : kept ≡ kept_from 0 made

-- why the checks end without the last verdict, or with more than it
abbrev pub StopsChecks : How → Opening → Plan → DeskState → List Kept → DeskState → Stop → Type 0
StopsChecks how from plan old kept new stop =
    BreaksOff how from plan old new kept stop ⊎ RunsOut how from plan old new kept stop ⊎ RefusesLine how from plan old new kept stop

-- ---- what is left behind them

-- the book of the last check, of those that are handed back
abbrev pub last_book : List Kept → Option Entries
last_book [] = None
last_book (k ∷ []) = Some k.book
last_book (k ∷ l ∷ ks) = last_book (l ∷ ks)

-- the file that is saved, if one is to be: the lemmas of that book
abbrev pub saved_file : List ℕ → Entries → Output
saved_file name book = record { name = name; bytes = book_text book.entries }

abbrev pub saved_of : Option (List ℕ) → List Kept → List Output
saved_of None kept = []
saved_of (Some name) kept = option_to_list (option_map (saved_file name) (last_book kept))

-- all checks are made and told, and no line is refused, but the lemmas aren't saved whole
pub record NotSaved (how : How) (from : Opening) (plan : Plan) (save : Option (List ℕ)) (old new : DeskState) (kept : List Kept) (stop : Stop) : Type 0 where
  pub status : Status
  pub mid : DeskState
  pub ends : Ends how from plan old mid status kept
  pub stops : StopsAmong (saved_of save kept) mid new stop
