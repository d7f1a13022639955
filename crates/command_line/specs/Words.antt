-- What the words of a command line ask for, and which of them are refused. A word is the list of its bytes, and the
-- first word is the program's name.
use Rattle.std.specs.Prelude.{◌≡◌, ◌⊎◌, ℕ, Bool, true, false, not, ◌&&◌, List, [], ◌∷◌, Option, Some, None, option_and_then, option_map, codes, unwrap_or, if◌then◌else◌}
use Rattle.std.specs.List.{list_any}
use Rattle.std.specs.Option.{option_map_or}
use Rattle.std.specs.Str.{bytes_eq}
use Rattle.std.specs.Str.Parse.{digits_value, without_leading_plus}
use Rattle.clap.specs.Faults.{fault_of}
use Rattle.clap.specs.Kinds.{Kinds}
use Rattle.clap.specs.Simple.{subcommand_of}
use Rattle.clap.specs.ValueTests.{is_unsigned_in}
use Rattle.clap.specs.Walk.{Row, Text, first_of, is_empty}
use Rattle.clap.specs.declared.error.kind.ErrorKind.{ErrorKind}
use Rattle.clap.specs.declared.error.kind.ErrorKind.TheVariants.{DisplayHelp, DisplayVersion}
use Rattle.command_line.specs.Saved.{names_left, names_one, writes_over}
use Rattle.command_line.specs.Commands.{NumberOption, budget_option, cec_app, seed_option, sweep_budget_option, words_option, workers_option}
use Rattle.workload_gen.specs.declared.kind.Kind.{Kind}
use Rattle.workload_gen.specs.declared.kind.Kind.TheVariants.{Adder, Parity, Comparator}
use Rattle.workload_gen.specs.declared.workload.TheConstants.{MOST_BITS}

-- `check A B`: the names of the two circuits' files and of an edit script's, if there is one, what the names of the written
-- files begin with, if any are to be written, the names of the files from which lemmas are loaded, to which they are saved and to
-- which an input is written that tells the circuits apart, if there are such, how many workers settle pairs and outputs, from which
-- seed how many words of 64 patterns are drawn, how many clauses a solver may learn for a pair of nodes and for an output, whether
-- inputs and outputs are paired by their names, and not by their positions, and whether it is told what was done and, while a
-- check goes on, how far it is
pub record CheckCommand : Type 0 where
  pub a : List ℕ
  pub b : List ℕ
  pub edits : Option (List ℕ)
  pub out : Option (List ℕ)
  pub load : Option (List ℕ)
  pub save : Option (List ℕ)
  pub witness : Option (List ℕ)
  pub workers : ℕ
  pub seed : ℕ
  pub words : ℕ
  pub sweep_budget : ℕ
  pub budget : ℕ
  pub by_name : Bool
  pub stats : Bool
  pub progress : Bool

-- `fraig A OUT`: the names of the files of the circuit and of the reduced one, what the names of the other written files begin
-- with, if any are to be written, how many workers settle pairs, from which seed how many words of 64 patterns are drawn, and
-- how many clauses a solver may learn for a pair of nodes
pub record FraigCommand : Type 0 where
  pub a : List ℕ
  pub reduced : List ℕ
  pub out : Option (List ℕ)
  pub workers : ℕ
  pub seed : ℕ
  pub words : ℕ
  pub sweep_budget : ℕ

-- `lrat CNF PROOF`: the names of the files of a formula and of its proof
pub record LratCommand : Type 0 where
  pub cnf : List ℕ
  pub proof : List ℕ

-- `self KIND N`: what the two circuits compute that the program makes, and of how many bits
pub record SelfCommand : Type 0 where
  pub kind : Kind
  pub n : ℕ

-- what the program is asked to do
pub data Request : Type 0 where
  CheckIt : CheckCommand → Request
  FraigIt : FraigCommand → Request
  LratIt : LratCommand → Request
  SelfIt : SelfCommand → Request

-- a word that is none of the names that its argument takes: the argument as help writes it, those names as they are listed,
-- and the word
pub record Misnamed : Type 0 where
  pub argument : Text
  pub names : Text
  pub word : Text

-- why the values of arguments ask for nothing, each of which may be given: a word is none of the names that its argument takes,
-- or the file of `--save` is one of those of `--out`, or that of the reduced circuit is, or that of `--witness` is, or that is the
-- file of `--save`
pub data Misuse : Type 0 where
  Misnames : Misnamed → Misuse
  SavesOver : Misuse
  WritesOver : Misuse
  WitnessOver : Misuse
  WitnessSaved : Misuse

-- what the values of arguments come to: what the program is asked to do, or why it is asked for nothing
pub data Outcome : Type 0 where
  Requested : Request → Outcome
  Misuses : Misuse → Outcome

-- the number that a text spells, if it is in a range: decimal digits, which zeros and one + may precede
abbrev pub number_in : ℕ → ℕ → Text → Option ℕ
number_in least most text =
    if is_unsigned_in least most text then Some (digits_value 10 (without_leading_plus text)) else None

abbrev pub lrat_of : Option Text → Option Text → Option Outcome
lrat_of (Some cnf) (Some proof) = Some (Requested (LratIt (record { cnf = cnf; proof = proof })))
lrat_of cnf proof = None

-- the kind of workload that a text names, if it is one
abbrev pub kind_named : Text → Option Kind
kind_named text =
    if bytes_eq text (codes "adder") then Some Adder
    else if bytes_eq text (codes "parity") then Some Parity
    else if bytes_eq text (codes "comparator") then Some Comparator
    else None

abbrev pub misnamed_kind : Text → Misnamed
misnamed_kind word = record { argument = codes "<KIND>"; names = codes "adder, parity, comparator"; word = word }

-- a workload of the kind that the word names, if it names one
abbrev pub workload_of : Option Kind → Text → ℕ → Outcome
workload_of (Some kind) word n = Requested (SelfIt (record { kind = kind; n = n }))
workload_of None word n = Misuses (Misnames (misnamed_kind word))

abbrev pub self_of : Option Text → Option ℕ → Option Outcome
self_of (Some word) (Some n) = Some (workload_of (kind_named word) word n)
self_of word n = None

-- the number that is the value of an argument
abbrev pub number_of : Text → ℕ → ℕ → List Row → Option ℕ
number_of id least most rows = option_and_then (number_in least most) (first_of id rows)

-- a check without an option: the default of each
abbrev pub plain_check : Text → Text → CheckCommand
plain_check a b = record {
  a = a;
  b = b;
  edits = None;
  out = None;
  load = None;
  save = None;
  witness = None;
  workers = 4;
  seed = 1;
  words = 4;
  sweep_budget = 100;
  budget = 100000;
  by_name = false;
  stats = false;
  progress = false;
}

-- the number that is given for an option, or else its default; a given one is in the range where the words have no fault
abbrev pub number_or : ℕ → NumberOption → List Row → ℕ
number_or default o rows = unwrap_or (number_of o.id o.least o.most rows) default

-- whether a flag is given: each has a value
abbrev pub is_set : Text → List Row → Bool
is_set id rows = option_map_or (λ text. bytes_eq text (codes "true")) (first_of id rows) false

-- the check with the numbers, texts and flags of the options that are given, each of which sets a field of its own
abbrev pub with_options : List Row → CheckCommand → CheckCommand
with_options rows c = record c {
  edits = first_of (codes "edits") rows;
  out = first_of (codes "out") rows;
  load = first_of (codes "load") rows;
  save = first_of (codes "save") rows;
  witness = first_of (codes "witness") rows;
  workers = number_or c.workers workers_option rows;
  seed = number_or c.seed seed_option rows;
  words = number_or c.words words_option rows;
  sweep_budget = number_or c.sweep_budget sweep_budget_option rows;
  budget = number_or c.budget budget_option rows;
  stats = is_set (codes "stats") rows;
  progress = is_set (codes "progress") rows;
}

-- the reduced circuit without an option: the default of each
abbrev pub plain_fraig : Text → Text → FraigCommand
plain_fraig a reduced = record {
  a = a;
  reduced = reduced;
  out = None;
  workers = 4;
  seed = 1;
  words = 4;
  sweep_budget = 100;
}

-- the same with the numbers and the text of the options that are given, each of which sets a field of its own
abbrev pub with_fraig_options : List Row → FraigCommand → FraigCommand
with_fraig_options rows c = record c {
  out = first_of (codes "out") rows;
  workers = number_or c.workers workers_option rows;
  seed = number_or c.seed seed_option rows;
  words = number_or c.words words_option rows;
  sweep_budget = number_or c.sweep_budget sweep_budget_option rows;
}

-- the reduced circuit, unless it would be written over a file that is left beside it
abbrev pub written : FraigCommand → Outcome
written c = if writes_over c.out c.reduced then Misuses WritesOver else Requested (FraigIt c)

abbrev pub fraig_of : Option Text → Option Text → List Row → Option FraigCommand
fraig_of (Some a) (Some reduced) rows = Some (with_fraig_options rows (plain_fraig a reduced))
fraig_of a reduced rows = None

-- the reduced circuit of a file, by all options
abbrev pub fraig_given : List Row → Option FraigCommand
fraig_given rows = fraig_of (first_of (codes "a") rows) (first_of (codes "reduced") rows) rows

-- whether a text names the pairing by names, if it names one
abbrev pub pairing_named : Text → Option Bool
pairing_named text =
    if bytes_eq text (codes "position") then Some false else if bytes_eq text (codes "names") then Some true else None

abbrev pub misnamed_pairing : Text → Misnamed
misnamed_pairing word = record { argument = codes "--match <BY>"; names = codes "position, names"; word = word }

-- the check, unless its witness would stand in the place of a file that it leaves, or of its lemmas
abbrev pub witnessed : CheckCommand → Outcome
witnessed c = if names_left c.out c.witness then Misuses WitnessOver
    else if names_one c.save c.witness then Misuses WitnessSaved else Requested (CheckIt c)

-- and unless it would save over such a file
abbrev pub saved : CheckCommand → Outcome
saved c = if names_left c.out c.save then Misuses SavesOver else witnessed c

-- the check by the pairing that the word names, if it names one
abbrev pub matched_by : Option Bool → Text → CheckCommand → Outcome
matched_by (Some by_name) word c = saved (record c { by_name = by_name })
matched_by None word c = Misuses (Misnames (misnamed_pairing word))

-- and as it is where no word is given
abbrev pub matched : Option Text → CheckCommand → Outcome
matched (Some word) c = matched_by (pairing_named word) word c
matched None c = saved c

abbrev pub check_of : Option Text → Option Text → List Row → Option CheckCommand
check_of (Some a) (Some b) rows = Some (with_options rows (plain_check a b))
check_of a b rows = None

-- the check of the two files, by all options but that of its pairing
abbrev pub check_given : List Row → Option CheckCommand
check_given rows = check_of (first_of (codes "a") rows) (first_of (codes "b") rows) rows

-- what the values of the arguments of each command come to
abbrev pub check_in : List Row → Option Outcome
check_in rows = option_map (matched (first_of (codes "match") rows)) (check_given rows)

abbrev pub fraig_in : List Row → Option Outcome
fraig_in rows = option_map written (fraig_given rows)

abbrev pub lrat_in : List Row → Option Outcome
lrat_in rows = lrat_of (first_of (codes "cnf") rows) (first_of (codes "proof") rows)

abbrev pub self_in : List Row → Option Outcome
self_in rows = self_of (first_of (codes "kind") rows) (number_of (codes "n") 1 MOST_BITS rows)

-- and those of the command of this name
abbrev pub outcome_in : Text → List Row → Option Outcome
outcome_in name rows =
    if bytes_eq name (codes "check") then check_in rows
    else if bytes_eq name (codes "fraig") then fraig_in rows
    else if bytes_eq name (codes "lrat") then lrat_in rows
    else if bytes_eq name (codes "self") then self_in rows
    else None

-- the second word is `help`, which is no command of the program
abbrev pub names_help : List Text → Bool
names_help (program ∷ command ∷ words) = bytes_eq command (codes "help")
names_help words = false

-- The kinds of fault of which `clap` finds one in the words: none where it takes them, and two only where it may call a
-- word one thing or the other.
unfoldable pub faults : List Text → Kinds
faults words = fault_of cec_app words

-- a fault that is none: the words ask for help or for the version
abbrev pub is_info : ErrorKind → Bool
is_info DisplayHelp = true
is_info DisplayVersion = true
is_info kind = false

-- what the words come to, where they have no fault
unfoldable pub outcome_of : List Text → Option Outcome
outcome_of words =
    if not (names_help words) && is_empty (faults words)
    then option_and_then (λ p. outcome_in p.0 p.1) (subcommand_of cec_app words) else None

abbrev pub Asks : List Text → Request → Type 0
Asks words request = outcome_of words ≡ Some (Requested request)

-- the words ask for help, by `--help` or `-h`
abbrev pub WantHelp : List Text → Type 0
WantHelp words = (names_help words ≡ false) × (faults words ≡ DisplayHelp ∷ [])

-- the words ask for the version, by `--version` or `-V`
abbrev pub WantVersion : List Text → Type 0
WantVersion words = (names_help words ≡ false) × (faults words ≡ DisplayVersion ∷ [])

abbrev pub WantInfo : List Text → Type 0
WantInfo words = WantHelp words ⊎ WantVersion words

-- the words name a command, but for this cause the values of its arguments ask for nothing
abbrev pub AskAmiss : List Text → Misuse → Type 0
AskAmiss words misuse = outcome_of words ≡ Some (Misuses misuse)

-- the words ask neither for help or the version nor for what the program does: they name the command `help`, or have another
-- fault than that they ask for help or the version, or name no kind of workload or no pairing, or a file that is left for another one
abbrev pub AreRefused : List Text → Type 0
AreRefused words = (names_help words ≡ true)
    ⊎ ((is_empty (faults words) ≡ false) × (list_any is_info (faults words) ≡ false))
    ⊎ ((misuse : Misuse) × AskAmiss words misuse)
