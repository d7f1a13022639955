-- What `read` answers to words.
use Rattle.std.specs.Prelude.{◌≡◌, ℕ, true, List, ◌++◌, codes, option_map, string_bytes}
use Rattle.clap.specs.Walk.{Text}
use Rattle.command_line.specs.Words.{CheckCommand, FraigCommand, LratCommand, SelfCommand, Request, CheckIt, FraigIt, LratIt, SelfIt, WantInfo, WantVersion, AreRefused, Misnamed, Misuse, Misnames, SavesOver, WritesOver, WitnessOver, WitnessSaved, AskAmiss, names_help}
use Rattle.command_line.specs.declared.asked.Asked.{Asked}
use Rattle.command_line.specs.declared.asked.Asked.TheVariants.{Check, Fraig, Lrat, SelfCheck}
use Rattle.command_line.specs.declared.asked.CheckWords.{CheckWords}
use Rattle.command_line.specs.declared.asked.FraigWords.{FraigWords}
use Rattle.command_line.specs.declared.asked.LratWords.{LratWords}
use Rattle.command_line.specs.declared.asked.SelfWords.{SelfWords}
use Rattle.command_line.specs.declared.reading.Refusal.{Refusal}
use Rattle.command_line.specs.declared.reading.Refusal.TheVariants.{Help, Usage, NoMemory}

abbrev pub check_texts : CheckWords → CheckCommand
check_texts c = record {
  a = c.a.now;
  b = c.b.now;
  edits = option_map (λ edits. edits.now) c.edits;
  out = option_map (λ out. out.now) c.out;
  load = option_map (λ load. load.now) c.load;
  save = option_map (λ save. save.now) c.save;
  witness = option_map (λ witness. witness.now) c.witness;
  workers = c.workers;
  seed = c.seed;
  words = c.words;
  sweep_budget = c.sweep_budget;
  budget = c.budget;
  by_name = c.by_name;
  stats = c.stats;
  progress = c.progress;
}

abbrev pub fraig_texts : FraigWords → FraigCommand
fraig_texts c = record {
  a = c.a.now;
  reduced = c.reduced.now;
  out = option_map (λ out. out.now) c.out;
  workers = c.workers;
  seed = c.seed;
  words = c.words;
  sweep_budget = c.sweep_budget;
}

abbrev pub lrat_texts : LratWords → LratCommand
lrat_texts c = record { cnf = c.cnf.now; proof = c.proof.now }

abbrev pub self_texts : SelfWords → SelfCommand
self_texts s = record { kind = s.kind; n = s.n }

-- the request in the texts that were handed out
abbrev pub request : Asked → Request
request (Check c) = CheckIt (check_texts c)
request (Fraig c) = FraigIt (fraig_texts c)
request (Lrat c) = LratIt (lrat_texts c)
request (SelfCheck c) = SelfIt (self_texts c)

-- what is said of the command `help`
abbrev pub no_help_text : List ℕ
no_help_text = codes "cec: no command help\n"

-- what is said of a word that is none of the names that its argument takes, in the form that `clap` gives such a refusal
abbrev pub misnamed_text : Misnamed → List ℕ
misnamed_text m = codes "error: invalid value '" ++ m.word ++ codes "' for '" ++ m.argument ++ codes "'\n  [possible values: "
    ++ m.names ++ codes "]\n\nFor more information, try '--help'.\n"

-- what is said where a file that is left would be saved over
abbrev pub saves_over_text : List ℕ
saves_over_text = codes "cec: --save names a file of --out\n"

-- and where it would be written over by the reduced circuit
abbrev pub writes_over_text : List ℕ
writes_over_text = codes "cec: OUT is a file of --out\n"

-- where the witness would be
abbrev pub witness_over_text : List ℕ
witness_over_text = codes "cec: --witness names a file of --out\n"

-- and where it would be saved over
abbrev pub witness_saved_text : List ℕ
witness_saved_text = codes "cec: --witness and --save name one file\n"

-- what is said of values that ask for nothing
abbrev pub misuse_text : Misuse → List ℕ
misuse_text (Misnames m) = misnamed_text m
misuse_text SavesOver = saves_over_text
misuse_text WritesOver = writes_over_text
misuse_text WitnessOver = witness_over_text
misuse_text WitnessSaved = witness_saved_text

-- the command `help`, or why values ask for nothing, is told by its own text
pub record Names (words : List Text) (text : List ℕ) : Type 0 where
  pub no_help : names_help words ≡ true → text ≡ no_help_text
  pub amiss : (m : Misuse) → AskAmiss words m → text ≡ misuse_text m

-- what is said to words that ask for the version
abbrev pub version_text : List ℕ
version_text = codes "cec 0.2.0\n"

-- the text is help or the version, and the version is told of by its own text
pub record Informs (words : List Text) (text : List ℕ) : Type 0 where
  pub wanted : WantInfo words
  pub version : WantVersion words → text ≡ version_text

-- when each refusal may come; want of memory is free
abbrev pub MayRefuse : List Text → Refusal → Type 0
MayRefuse words (Help text) = Informs words (string_bytes text)
MayRefuse words (Usage text) = AreRefused words × Names words (string_bytes text)
MayRefuse words NoMemory = Unit {0}
