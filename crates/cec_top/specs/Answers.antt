-- What a run of the program answers.
use Rattle.std.specs.Prelude.{◌≡◌, ◌⊎◌, ℕ, List, [], ◌∷◌, ◌++◌, length, None, Some, Err, string_bytes, Option, option_map}
use Rattle.std.specs.List.{flat_map}
use Rattle.std.specs.Option.{option_to_list}
use Rattle.desk_port.specs.Desk.{DeskState, after_say}
use Rattle.netlist.specs.declared.unlike.Unlike.{Unlike}
use Rattle.netlist.specs.Net.{AigPair}
use Rattle.netlist.specs.Pairing.{IsMatched, paired, unlike_in}
use Rattle.netlist.specs.Circuit.{Aig}
use Rattle.aiger_file.specs.File.{SpellsAiger}
use Rattle.command_line.specs.Words.{CheckCommand, FraigCommand, LratCommand, SelfCommand, CheckIt, FraigIt, LratIt, SelfIt, Asks, WantInfo, WantVersion, AreRefused}
use Rattle.command_line.specs.Answers.{Names, version_text}
use Rattle.endings.specs.Reading.{Input, AreRead, ReadsUpTo, after_reads}
use Rattle.endings.specs.Writing.{Says, after_files}
use Rattle.endings.specs.Stops.{EndsBy, Warns}
use Rattle.endings.specs.declared.status.Status.{Status}
use Rattle.endings.specs.declared.status.Status.TheVariants as ends
use Rattle.endings.specs.declared.stop.Stop.{Stop}
use Rattle.endings.specs.declared.stop.Stop.TheVariants.{NotAlike, OutOfMemory}
use Rattle.lrat_run.specs.Answers.{AnswersLrat}
use Rattle.cec_top.specs.declared.kept.Kept.{Kept}
use Rattle.cec_top.specs.Inputs.{circuit_file, lemma_file, script_file}
use Rattle.cec_top.specs.Lines.{unlike_text}
use Rattle.cec_top.specs.Texts.{lemmas_line}
use Rattle.book_file.specs.Reading.{SpellsBook}
use Rattle.book_file.specs.Loaded.{IsLoaded}
use Rattle.lemma_book.specs.declared.entry.Entry.{Entry}
use Rattle.check_session.specs.declared.options.Options.{Options}
use Rattle.check_session.specs.Check.{empty_book}
use Rattle.netlist_edits.specs.Script.{script_lines}
use Rattle.cec_top.specs.Script.{plan_of}
use Rattle.cec_top.specs.Check.{How, Opening, Ends, NotSaved, StopsChecks, saved_of}
use Rattle.cec_top.specs.SelfCheck.{AnswersSelf}
use Rattle.cec_top.specs.Fraig.{AnswersFraig}

-- ---- a check

-- the files that the command reads, in order: those of the pair, and behind them, before check 0, the script's and that of the
-- lemmas that are loaded, where there are such
abbrev pub pair_of : CheckCommand → List Input
pair_of c = circuit_file c.a ∷ circuit_file c.b ∷ []

abbrev pub script_of : CheckCommand → List Input
script_of c = option_to_list (option_map script_file c.edits)

abbrev pub lemmas_of : Option (List ℕ) → List Input
lemmas_of load = option_to_list (option_map lemma_file load)

abbrev pub names_of : CheckCommand → List (List ℕ)
names_of c = c.a ∷ c.b ∷ (option_to_list c.edits ++ option_to_list c.load)

-- under which numbers the command makes its checks, how it matches inputs and outputs, with which prefix for their files and which
-- file for their witness, and whether their statistics and their progress are warned
abbrev pub how_of : CheckCommand → How
how_of c = record {
  options = record {
    workers = c.workers;
    seed = c.seed;
    words = c.words;
    sweep_budget = c.sweep_budget;
    out_budget = c.budget;
    by_name = c.by_name;
  };
  out = c.out;
  witness = c.witness;
  stats = c.stats;
  progress = c.progress;
}

-- the pair is read, and the files spell these circuits
pub record ReadsCircuits (c : CheckCommand) (old : DeskState) (first second : Aig) : Type 0 where
  pub a : List ℕ
  pub b : List ℕ
  pub read : AreRead old [] (pair_of c) (a ∷ b ∷ [])
  pub spells_a : SpellsAiger a first
  pub spells_b : SpellsAiger b second

-- the circuits can be compared, and the net is their pair: by position the second one is as it is, and by name each of its
-- inputs and outputs stands where the first one has its name
pub record AreAlike (c : CheckCommand) (old : DeskState) (net : AigPair) : Type 0 where
  pub second : Aig
  pub reads : ReadsCircuits c old net.a second
  pub alike : unlike_in c.by_name net.a second ≡ None
  pub net_is : net ≡ paired c.by_name net.a second
  pub matched : IsMatched c.by_name net.a second net.b

-- the desk after the pair was read, and before check 0
abbrev pub after_pair : CheckCommand → DeskState → DeskState
after_pair c old = after_reads old (pair_of c)

-- then after the script was read, and after the lemmas were, where there are such
abbrev pub after_script : CheckCommand → DeskState → DeskState
after_script c old = after_reads (after_pair c old) (script_of c)

abbrev pub after_lemmas : CheckCommand → DeskState → DeskState
after_lemmas c old = after_reads (after_script c old) (lemmas_of c.load)

-- the script is read behind files of these bytes, and has these lines; without one there are none
pub record ReadsLines (c : CheckCommand) (old : DeskState) (earlier : List (List ℕ)) (lines : List (List ℕ)) : Type 0 where
  pub scripts : List (List ℕ)
  pub read : AreRead (after_pair c old) earlier (script_of c) scripts
  pub lines_are : lines ≡ flat_map script_lines scripts

-- a lemma file of these bytes spells these entries; without one there are none
abbrev pub AreSpelled : List (List ℕ) → Option (List Entry) → Type 0
AreSpelled [] lemmas = lemmas ≡ None
AreSpelled (bytes ∷ rest) lemmas = (entries : List Entry) × SpellsBook bytes entries × (lemmas ≡ Some entries)

-- the lemma file of this name is read, if one is named, and these are its entries
pub record ReadsLemmas (load : Option (List ℕ)) (old : DeskState) (lemmas : Option (List Entry)) : Type 0 where
  pub files : List (List ℕ)
  pub read : (earlier : List (List ℕ)) → AreRead old earlier (lemmas_of load) files
  pub spelled : AreSpelled files lemmas

-- what the command asks for: the pair is read and can be compared, and the script and the lemmas are read
pub record AsksFor (c : CheckCommand) (old : DeskState) (net : AigPair) (lines : List (List ℕ)) (lemmas : Option (List Entry)) : Type 0 where
  pub pair : AreAlike c old net
  pub script : ReadsLines c old (pair.reads.a ∷ pair.reads.b ∷ []) lines
  pub loads : ReadsLemmas c.load (after_script c old) lemmas

-- What check 0 goes on from: the pair, and the book that it takes of the entries, which are judged one after the other; or an empty
-- book, where none are loaded.
abbrev pub IsOpening : Options → AigPair → Option (List Entry) → Opening → Type 0
IsOpening o net None from = from ≡ record { net = net; book = empty_book o }
IsOpening o net (Some entries) from = (from.net ≡ net) × IsLoaded net o.sweep_budget o.out_budget entries from.book

-- what is said of it, if entries are loaded: how many it takes, of how many
abbrev pub opening_text : Option (List Entry) → Opening → List ℕ
opening_text None from = []
opening_text (Some entries) from = lemmas_line (length from.book.entries) (length entries)

-- the desk after it was said, before check 0
abbrev pub after_opening : Option (List Entry) → Opening → DeskState → DeskState
after_opening None from s = s
after_opening (Some entries) from s = after_say s (opening_text (Some entries) from)

abbrev pub at_start : CheckCommand → DeskState → Option (List Entry) → Opening → DeskState
at_start c old lemmas from = after_opening lemmas from (after_lemmas c old)

-- All checks are made and told, and then the lemmas of the last one are saved, if they are to be.
pub record EndsCheck (c : CheckCommand) (old new : DeskState) (status : Status) (kept : List Kept) : Type 0 where
  pub net : AigPair
  pub lines : List (List ℕ)
  pub lemmas : Option (List Entry)
  pub asks : AsksFor c old net lines lemmas
  pub from : Opening
  pub opens : IsOpening (how_of c).options net lemmas from
  pub mid : DeskState
  pub ends : Ends (how_of c) from (plan_of net lines) (at_start c old lemmas from) mid status kept
  pub saved : new ≡ after_files mid (saved_of c.save kept)

-- the text of the cause says how the circuits differ
abbrev pub NamesUnlike : Unlike → Stop → Type 0
NamesUnlike unlike (NotAlike text) = string_bytes text ≡ unlike_text unlike
NamesUnlike unlike stop = ⊥

-- the files spell circuits that can't be compared
pub record AreUnlike (c : CheckCommand) (old new : DeskState) (stop : Stop) : Type 0 where
  pub first : Aig
  pub second : Aig
  pub reads : ReadsCircuits c old first second
  pub unlike : Unlike
  pub differ : unlike_in c.by_name first second ≡ Some unlike
  pub stop_is : NamesUnlike unlike stop
  pub new_is : new ≡ after_pair c old

-- the circuits can be compared, and the script isn't read, or it is and the lemmas aren't
pub record ReadsNoMore (c : CheckCommand) (old new : DeskState) (stop : Stop) : Type 0 where
  pub net : AigPair
  pub pair : AreAlike c old net
  pub stops : ReadsUpTo 2 (pair.reads.a ∷ pair.reads.b ∷ []) (script_of c ++ lemmas_of c.load) (after_pair c old) new stop

-- all files are read, and it isn't said whole how many of these entries are taken
pub record OpensNot (c : CheckCommand) (old new : DeskState) (stop : Stop) : Type 0 where
  pub net : AigPair
  pub lines : List (List ℕ)
  pub entries : List Entry
  pub asks : AsksFor c old net lines (Some entries)
  pub stops : ((stop ≡ OutOfMemory) × (new ≡ after_lemmas c old))
      ⊎ ((from : Opening) × IsOpening (how_of c).options net (Some entries) from
      × Says (opening_text (Some entries) from) (after_lemmas c old) new (Err stop))

-- the checks are begun, and end without the last verdict or with more than it, or their lemmas aren't saved whole
pub record StopsLater (c : CheckCommand) (old : DeskState) (kept : List Kept) (new : DeskState) (stop : Stop) : Type 0 where
  pub net : AigPair
  pub lines : List (List ℕ)
  pub lemmas : Option (List Entry)
  pub asks : AsksFor c old net lines lemmas
  pub from : Opening
  pub opens : IsOpening (how_of c).options net lemmas from
  pub stops : StopsChecks (how_of c) from (plan_of net lines) (at_start c old lemmas from) kept new stop
      ⊎ NotSaved (how_of c) from (plan_of net lines) c.save (at_start c old lemmas from) new kept stop

-- why a command ends without the last verdict said whole, or behind it at a line that is refused or a file that isn't saved
abbrev pub Stops : CheckCommand → DeskState → List Kept → DeskState → Stop → Type 0
Stops c old kept new stop =
    ((kept ≡ []) × ReadsUpTo 0 [] (pair_of c) old new stop)
    ⊎ ((kept ≡ []) × AreUnlike c old new stop)
    ⊎ ((kept ≡ []) × ReadsNoMore c old new stop)
    ⊎ ((kept ≡ []) × OpensNot c old new stop)
    ⊎ StopsLater c old kept new stop

-- what the program answers to arguments that ask for a check
abbrev pub AnswersCheck : CheckCommand → DeskState → DeskState → Status → List Kept → Type 0
AnswersCheck c old new status kept = EndsCheck c old new status kept ⊎ EndsBy (names_of c) (Stops c old kept) new status

-- ---- the program

-- the arguments ask for a check
pub record ChecksWords (words : List (List ℕ)) (old new : DeskState) (status : Status) (kept : List Kept) : Type 0 where
  pub command : CheckCommand
  pub asked : Asks words (CheckIt command)
  pub answers : AnswersCheck command old new status kept

-- they ask whether a proof refutes a formula
pub record ProvesWords (words : List (List ℕ)) (old new : DeskState) (status : Status) (kept : List Kept) : Type 0 where
  pub command : LratCommand
  pub asked : Asks words (LratIt command)
  pub none : kept ≡ []
  pub answers : AnswersLrat command.cnf command.proof old new status

-- they ask for the check of two circuits that the program makes
pub record MakesWords (words : List (List ℕ)) (old new : DeskState) (status : Status) (kept : List Kept) : Type 0 where
  pub command : SelfCommand
  pub asked : Asks words (SelfIt command)
  pub answers : AnswersSelf command old new status kept

-- they ask for the reduced circuit of a file
pub record ReducesWords (words : List (List ℕ)) (old new : DeskState) (status : Status) (kept : List Kept) : Type 0 where
  pub command : FraigCommand
  pub asked : Asks words (FraigIt command)
  pub answers : AnswersFraig command old new status kept

-- the text is said; or saying it ends the program
abbrev pub SaysHelp : List ℕ → DeskState → DeskState → Status → Type 0
SaysHelp text old new status =
    ((status ≡ ends.Done) × (new ≡ after_say old text)) ⊎ EndsBy [] (λ mid stop. Says text old mid (Err stop)) new status

-- they want help or the version, which is said
pub record HelpsWords (words : List (List ℕ)) (old new : DeskState) (status : Status) (kept : List Kept) : Type 0 where
  pub wanted : WantInfo words
  pub none : kept ≡ []
  pub text : List ℕ
  pub version : WantVersion words → text ≡ version_text
  pub says : SaysHelp text old new status

-- they are refused, by a text that is warned and tells of a command `help`, and of a word that names no kind of workload or no
-- pairing
pub record RefusesWords (words : List (List ℕ)) (old new : DeskState) (status : Status) (kept : List Kept) : Type 0 where
  pub refused : AreRefused words
  pub none : kept ≡ []
  pub text : List ℕ
  pub named : Names words text
  pub warns : Warns text ends.BadUsage old new status

-- memory ran out, before anything was done
abbrev pub IsAtOnce : DeskState → DeskState → Stop → Type 0
IsAtOnce old mid stop = (stop ≡ OutOfMemory) × (mid ≡ old)

pub record KnowsNothing (old new : DeskState) (status : Status) (kept : List Kept) : Type 0 where
  pub none : kept ≡ []
  pub ends : EndsBy [] (IsAtOnce old) new status

-- What the program answers to its arguments. They ask for a check, of files or of circuits that the program makes, or for a
-- proof to be checked, or for a circuit to be reduced, or want help or the version, or are refused, and only one of these
-- (`command_line::words_are_one_of`); or memory ran out before it was known which.
abbrev pub Answers : List (List ℕ) → DeskState → DeskState → Status → List Kept → Type 0
Answers words old new status kept =
    ChecksWords words old new status kept
    ⊎ ProvesWords words old new status kept
    ⊎ MakesWords words old new status kept
    ⊎ ReducesWords words old new status kept
    ⊎ HelpsWords words old new status kept
    ⊎ RefusesWords words old new status kept
    ⊎ KnowsNothing old new status kept
