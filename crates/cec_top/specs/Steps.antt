-- How the program goes about a check, for the crate's own functions.
use Rattle.std.specs.Prelude.{◌≡◌, ◌≢◌, ◌⊎◌, ℕ, Bool, true, false, List, [], ◌∷◌, ◌++◌, ◌+◌, Option, None, Some, option_map, slice_get, Result, Ok, Err, string_bytes, if◌then◌else◌}
use Rattle.std.specs.Global.{Vec}
use Rattle.desk_port.specs.Desk.{DeskState}
use Rattle.netlist.specs.Circuit.{Aig}
use Rattle.netlist.specs.Net.{AigPair}
use Rattle.netlist.specs.declared.unlike.Unlike.{Unlike}
use Rattle.netlist.specs.declared.unlike.Unlike.TheVariants.{NoMemory as Memory}
use Rattle.aiger_file.specs.File.{SpellsAiger}
use Rattle.endings.specs.Reading.{ReadsBytes, ReadsUpTo, after_reads}
use Rattle.endings.specs.Writing.{Output, Leaves, Says, StopsAmong, after_files}
use Rattle.endings.specs.declared.stop.Stop.{Stop}
use Rattle.endings.specs.declared.stop.Stop.TheVariants.{OutOfMemory}
use Rattle.endings.specs.Stops.{EndsBy, Warns}
use Rattle.endings.specs.declared.status.Status.{Status}
use Rattle.endings.specs.declared.status.Status.TheVariants as ends
use Rattle.command_line.specs.declared.reading.Refusal.{Refusal}
use Rattle.command_line.specs.declared.reading.Refusal.TheVariants.{Help, Usage, NoMemory}
use Rattle.command_line.specs.Words.{CheckCommand, SelfCommand}
use Rattle.check_session.specs.declared.verdict.Verdict.{Verdict}
use Rattle.check_session.specs.declared.verdict.Verdict.TheVariants as verdict
use Rattle.check_session.specs.Outputs.{ListsOpen, finding_of}
use Rattle.check_session.specs.Check.{State, opened, with_edit}
use Rattle.lemma_book.specs.Book.{StartsWith}
use Rattle.netlist_edits.specs.declared.error.EditErr.{EditErr}
use Rattle.netlist_edits.specs.declared.error.EditErr.TheVariants as refused
use Rattle.keep_lemmas.specs.Kept.{kept}
use Rattle.lemma_book.specs.declared.entry.Entry.{Entry}
use Rattle.lemma_book.specs.Entry.{Entries}
use Rattle.cec_top.specs.declared.kept.Kept.{Kept}
use Rattle.cec_top.specs.declared.wants.Wants.{Wants}
use Rattle.cec_top.specs.Witness.{named_line}
use Rattle.std.specs.Option.{option_map_or}
use Rattle.symbol_names.specs.NameList.{name_at}
use Rattle.cec_top.specs.Progress.{WarnsProgress}
use Rattle.cec_top.specs.Script.{Due, Plan, Refused, Turn, Passes, Makes, AsksCheck, Fails, due_behind}
use Rattle.cec_top.specs.Check.{How, Made, Opening, IsMade, Tells, AreTold, Ends, StopsChecks, SaysFault, status_of_finding, kept_of, due_of, left_of, outputs_of, saved_of, script_place, text_of_check}
use Rattle.cec_top.specs.SelfCheck.{AreWorkload, own_how}
use Rattle.cec_top.specs.Answers.{IsOpening, ReadsLemmas, after_opening, lemmas_of, opening_text, AreAlike, AreUnlike, NamesUnlike, SaysHelp, IsAtOnce, pair_of, after_pair, how_of}

-- ---- the pair is read

abbrev pub ReadsPair : CheckCommand → DeskState → DeskState → Result AigPair Stop → Type 0
ReadsPair c old new (Ok net) = AreAlike c old net × (new ≡ after_pair c old)
ReadsPair c old new (Err stop) = ReadsUpTo 0 [] (pair_of c) old new stop ⊎ AreUnlike c old new stop

-- memory ran out, or it didn't, and the text of the cause says how the circuits differ
abbrev pub StopsUnlike : Unlike → Stop → Type 0
StopsUnlike unlike stop = (stop ≡ OutOfMemory) ⊎ ((unlike ≢ Memory) × NamesUnlike unlike stop)

-- a session for the pair, under the command's numbers, that was just opened
abbrev pub ReadsSession : CheckCommand → DeskState → DeskState → Result State Stop → Type 0
ReadsSession c old new (Ok s) = ReadsPair c old new (Ok s.net) × (s ≡ opened s.net (how_of c).options)
ReadsSession c old new (Err stop) = ReadsPair c old new (Err stop)

-- the script of this name is read; without one there are no bytes, and nothing is read
abbrev pub ReadsScript : Option (List ℕ) → DeskState → DeskState → Result (Vec ℕ) Stop → Type 0
ReadsScript None old new (Ok script) = (script.items ≡ []) × (new ≡ old)
ReadsScript None old new (Err stop) = ⊥
ReadsScript (Some name) old new result = ReadsBytes script_place name old new result

-- what the next check of a session goes on from
abbrev pub opening_in : State → Opening
opening_in s = record { net = s.last; book = s.book }

-- the session goes on from these entries, and how many it takes is said
pub record LoadsWhole (load : Option (List ℕ)) (s t : State) (old new : DeskState) : Type 0 where
  pub lemmas : Option (List Entry)
  pub reads : ReadsLemmas load old lemmas
  pub opens : IsOpening s.options s.net lemmas (opening_in t)
  pub session : t ≡ record s { book = t.book }
  pub new_is : new ≡ after_opening lemmas (opening_in t) (after_reads old (lemmas_of load))

-- they are read, but that isn't said whole
pub record LoadsInPart (load : Option (List ℕ)) (s : State) (old new : DeskState) (stop : Stop) : Type 0 where
  pub entries : List Entry
  pub reads : ReadsLemmas load old (Some entries)
  pub stops : ((stop ≡ OutOfMemory) × (new ≡ after_reads old (lemmas_of load)))
      ⊎ ((from : Opening) × IsOpening s.options s.net (Some entries) from
      × Says (opening_text (Some entries) from) (after_reads old (lemmas_of load)) new (Err stop))

abbrev pub LoadsLemmas : Option (List ℕ) → ℕ → State → State → DeskState → DeskState → Result (Unit {0}) Stop → Type 0
LoadsLemmas load k s t old new (Ok _) = LoadsWhole load s t old new
LoadsLemmas load k s t old new (Err stop) =
    ((earlier : List (List ℕ)) → ReadsUpTo k earlier (lemmas_of load) old new stop) ⊎ LoadsInPart load s old new stop

-- the place of the lemma file among the files that are read: behind the script, if there is one
abbrev pub lemmas_place : Option (List ℕ) → ℕ
lemmas_place None = script_place
lemmas_place (Some edits) = script_place + 1

-- the lemmas are saved, if they are to be, or not whole
abbrev pub SavesLemmas : Option (List ℕ) → List Kept → DeskState → DeskState → Result (Unit {0}) Stop → Type 0
SavesLemmas save kept old new (Ok _) = new ≡ after_files old (saved_of save kept)
SavesLemmas save kept old new (Err stop) = StopsAmong (saved_of save kept) old new stop

-- what the program makes of arguments that ask for nothing, by why they are refused
abbrev pub AnswersRefusal : Refusal → DeskState → DeskState → Status → Type 0
AnswersRefusal (Help text) old new status = SaysHelp (string_bytes text) old new status
AnswersRefusal (Usage text) old new status = Warns (string_bytes text) ends.BadUsage old new status
AnswersRefusal NoMemory old new status = EndsBy [] (IsAtOnce old) new status

-- ---- one check

-- the outputs that a verdict leaves open
abbrev pub opens_in : Verdict → List ℕ
opens_in verdict.Equivalent = []
opens_in (verdict.Different output input) = []
opens_in (verdict.Undecided outputs) = outputs

-- what is wanted of the checks besides their verdicts: files under a prefix, a witness's file, statistics and progress
pub record Wanted : Type 0 where
  pub out : Option (List ℕ)
  pub witness : Option (List ℕ)
  pub stats : Bool
  pub progress : Bool

abbrev pub wanted_of : CheckCommand → Wanted
wanted_of c = record { out = c.out; witness = c.witness; stats = c.stats; progress = c.progress }

-- by the texts of the code's values
abbrev pub wanted_in : Wants → Wanted
wanted_in w = record {
  out = option_map (λ out. out.now) w.out;
  witness = option_map (λ witness. witness.now) w.witness;
  stats = w.stats;
  progress = w.progress;
}

-- how the checks of a session are made of which that is wanted
abbrev pub how_in : State → Wanted → How
how_in s w = record { options = s.options; out = w.out; witness = w.witness; stats = w.stats; progress = w.progress }

-- what a check of the session as it is would be of
abbrev pub due_in : State → Due
due_in s = record { net = s.net; edits = s.edits }

-- the session's last check found this, behind these edits
abbrev pub made_in : Due → State → Verdict → Made
made_in due s v = record { net = s.net; edits = due.edits; book = s.book; finding = finding_of v }

-- the session's pair is settled, and its book goes on from what is kept of the one before
pub record Settles (s t : State) (v : Verdict) : Type 0 where
  pub net_is : t.net ≡ s.net
  pub options_are : t.options ≡ s.options
  pub due_is : due_in t ≡ due_behind s.net
  pub last_is : t.last ≡ s.net
  pub begins : StartsWith t.book (kept s.last s.edits s.book)
  pub found_is : t.found ≡ Some (finding_of v)
  pub open_are : ListsOpen t.net t.book.entries v
  pub is_made : (wanted : Wanted) → IsMade (how_in t wanted) (made_in (due_in s) t v)

-- the check's files are left and its verdict is said, and the status is that of the verdict; or in part
abbrev pub SaysStatus : Wanted → ℕ → Made → DeskState → DeskState → Result Status Stop → Type 0
SaysStatus w number m old new (Ok status) =
    Leaves (left_of w.out w.witness number m) (text_of_check w.out m) old new (Ok tt) × (status ≡ status_of_finding m.finding)
SaysStatus w number m old new (Err stop) = Leaves (left_of w.out w.witness number m) (text_of_check w.out m) old new (Err stop)

-- files are written whole and closed, and this text is to be said behind them; or that stops
abbrev pub LeavesText : List Output → List ℕ → DeskState → DeskState → Result (Vec ℕ) Stop → Type 0
LeavesText os text old new (Ok v) = (new ≡ after_files old os) × (v.items ≡ text)
LeavesText os text old new (Err stop) = StopsAmong os old new stop ⊎ ((stop ≡ OutOfMemory) × (new ≡ after_files old os))

abbrev pub LeavesTextOf : Option (List ℕ) → ℕ → Made → DeskState → DeskState → Result (Vec ℕ) Stop → Type 0
LeavesTextOf out number m old new result = LeavesText (outputs_of out number m) (text_of_check out m) old new result

-- files are written whole and closed, or not
abbrev pub WritesOutputs : List Output → DeskState → DeskState → Result (Unit {0}) Stop → Type 0
WritesOutputs os old new (Ok u) = new ≡ after_files old os
WritesOutputs os old new (Err stop) = StopsAmong os old new stop

-- the line of input k of a witness, if it has a name and a truth value
abbrev pub line_at : List (Option (List ℕ)) → List Bool → ℕ → List ℕ
line_at names bits k = option_map_or (λ bit. named_line (name_at names k) bit) (slice_get bits k) []

-- the session has the circuits and the book of its last check, which is this one
pub record Holds (s : State) (m : Made) : Type 0 where
  pub last_is : s.last ≡ m.net
  pub book_is : s.book ≡ m.book

-- A check of the session as it is is made, with this number, and told whole: its book goes on from what is kept of the one
-- before, and the session has it.
pub record ToldWhole (how : How) (number : ℕ) (s t : State) (old new : DeskState) (before after : List Kept) (status : Status) : Type 0 where
  pub made : Made
  pub due_is : due_of made ≡ due_in s
  pub begins : StartsWith made.book (kept s.last s.edits s.book)
  pub told : AreTold how number (made ∷ []) old new
  pub status_is : status ≡ status_of_finding made.finding
  pub keeps : after ≡ before
  pub holds : Holds t made
  pub behind : due_in t ≡ due_behind made.net
  pub options_are : t.options ≡ s.options

-- it is made and told in part, and its book is kept
pub record ToldInPart (how : How) (number : ℕ) (s : State) (old new : DeskState) (before after : List Kept) (stop : Stop) : Type 0 where
  pub half : Made
  pub due_is : due_of half ≡ due_in s
  pub begins : StartsWith half.book (kept s.last s.edits s.book)
  pub is_made : IsMade how half
  pub breaks : Tells how number half old new (Err stop)
  pub keeps : after ≡ before ++ kept_of number half ∷ []

-- memory ran out, and nothing was told or kept; progress may be warned
pub record NotMade (progress : Bool) (old new : DeskState) (before after : List Kept) (stop : Stop) : Type 0 where
  pub out : stop ≡ OutOfMemory
  pub warns : WarnsProgress progress old new
  pub keeps : after ≡ before

abbrev pub Checks : How → ℕ → State → State → DeskState → DeskState → List Kept → List Kept → Result Status Stop → Type 0
Checks how number s t old new before after (Ok status) = ToldWhole how number s t old new before after status
Checks how number s t old new before after (Err stop) =
    ToldInPart how number s old new before after stop ⊎ NotMade how.progress old new before after stop

-- the status is that of a check that left outputs open
abbrev pub is_open : Status → Bool
is_open ends.Undecided = true
is_open status = false

-- ---- a line of a script

-- what is done at a line that comes to this: true where it asks for a check, which isn't made yet
abbrev pub DoesTurn : Turn → State → State → Result Bool EditErr → Type 0
DoesTurn Passes s t result = (result ≡ Ok false) × (t ≡ s)
DoesTurn (Makes edit) s t (Ok asked) = (asked ≡ false) × (t ≡ with_edit s edit)
DoesTurn (Makes edit) s t (Err e) = (e ≡ refused.NoMemory) × (t ≡ s)
DoesTurn AsksCheck s t result = (result ≡ Ok true) × (t ≡ s)
DoesTurn (Fails fault) s t result = (result ≡ Err fault) × (t ≡ s)

-- where the line is refused its text is told; or memory ran out, for its edit or for the text
abbrev pub StopsAtLine : Refused → Stop → Type 0
StopsAtLine line stop = (stop ≡ OutOfMemory) ⊎ ((line.fault ≢ refused.NoMemory) × SaysFault line stop)

-- the book of a check with this status is kept where outputs were left open; or memory ran out
abbrev pub KeepsOpen : {A E : Type 0} → ℕ → Status → Entries → List Kept → List Kept → Result A E → Type 0
KeepsOpen number status book before after (Ok a) =
    after ≡ before ++ (if is_open status then record { check = number; book = book } ∷ [] else [])
KeepsOpen number status book before after (Err e) = after ≡ before

-- ---- the checks that a script asks for

-- all are made and told, or that ends without the last verdict or with more than it
abbrev pub RunsPlan : How → Opening → Plan → DeskState → DeskState → List Kept → Result Status Stop → Type 0
RunsPlan how from plan old new kept (Ok status) = Ends how from plan old new status kept
RunsPlan how from plan old new kept (Err stop) = StopsChecks how from plan old kept new stop

-- ---- circuits that the program makes

-- a session for them, without an option; or memory runs out
abbrev pub MakesSession : SelfCommand → Result State Stop → Type 0
MakesSession c (Ok s) = AreWorkload c s.net × (s ≡ opened s.net own_how.options)
MakesSession c (Err stop) = stop ≡ OutOfMemory

-- bytes that spell a circuit are read as it; or memory runs out
abbrev pub ReadsBack : List ℕ → Result Aig Stop → Type 0
ReadsBack bytes (Ok c) = SpellsAiger bytes c
ReadsBack bytes (Err stop) = stop ≡ OutOfMemory
