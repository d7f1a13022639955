-- What the parts of `read` answer.
use Rattle.std.specs.Prelude.{◌≡◌, ◌≢◌, ◌⊎◌, false, Option, Some, None, Result, Ok, Err, option_and_then, string_bytes}
use Rattle.clap.specs.Simple.{subcommand_rows_of}
use Rattle.clap.specs.declared.error.kind.ErrorKind.{ErrorKind}
use Rattle.clap.specs.declared.error.kind.ErrorKind.TheVariants.{DisplayHelp, DisplayVersion, OutOfMemory}
use Rattle.clap.specs.declared.parser.matches.ArgMatches.{ArgMatches}
use Rattle.command_line.specs.Answers.{misuse_text, no_help_text, request, version_text}
use Rattle.command_line.specs.Words.{Misnamed as Word, Misuse, Misnames, SavesOver, WritesOver, WitnessOver, WitnessSaved, Misuses, Outcome, Requested, is_info, outcome_in}
use Rattle.command_line.specs.declared.asked.Asked.{Asked}
use Rattle.command_line.specs.declared.asked.MisnamedWord.{MisnamedWord}
use Rattle.command_line.specs.declared.asked.Unfit.{Unfit}
use Rattle.command_line.specs.declared.asked.Unfit.TheVariants.{Misnamed, SavesOver as Over, WritesOver as Written, WitnessOver as Witnessed, WitnessSaved as Lost}
use Rattle.command_line.specs.declared.reading.Refusal.{Refusal}
use Rattle.command_line.specs.declared.reading.Refusal.TheVariants.{Help, Usage, NoMemory}

-- the refusal of the command `help`
abbrev pub RefusesHelp : Refusal → Type 0
RefusesHelp (Help text) = ⊥
RefusesHelp (Usage text) = string_bytes text ≡ no_help_text
RefusesHelp NoMemory = Unit {0}

-- the refusal of values that ask for nothing
abbrev pub RefusesMisuse : Misuse → Refusal → Type 0
RefusesMisuse misuse (Help text) = ⊥
RefusesMisuse misuse (Usage text) = string_bytes text ≡ misuse_text misuse
RefusesMisuse misuse NoMemory = Unit {0}

-- the refusal of what matches come to: only such values are refused
abbrev pub RefusesFound : Option Outcome → Refusal → Type 0
RefusesFound (Some (Misuses misuse)) refusal = RefusesMisuse misuse refusal
RefusesFound (Some (Requested request)) refusal = ⊥
RefusesFound None refusal = ⊥

-- the version is told
abbrev pub TellsVersion : Refusal → Type 0
TellsVersion (Help text) = string_bytes text ≡ version_text
TellsVersion (Usage text) = ⊥
TellsVersion NoMemory = Unit {0}

-- the refusal by which `read` tells that `clap` refused the words for this kind
abbrev pub IsRefusal : ErrorKind → Refusal → Type 0
IsRefusal kind (Help text) =
    (kind ≡ DisplayHelp) ⊎ ((kind ≡ DisplayVersion) × (string_bytes text ≡ version_text))
IsRefusal kind (Usage text) = (is_info kind ≡ false) × (kind ≢ OutOfMemory)
IsRefusal kind NoMemory = Unit {0}

-- what the matches of a parse come to
abbrev pub found : ArgMatches → Option Outcome
found m = option_and_then (λ p. outcome_in p.0 p.1) (subcommand_rows_of m)

-- the texts of a word that is no name
abbrev pub misnamed_texts : MisnamedWord → Word
misnamed_texts m = record { argument = m.argument.now; names = m.names.now; word = m.word.now }

-- why values ask for nothing, in the texts that were handed out
abbrev pub misuse : Unfit → Misuse
misuse (Misnamed word) = Misnames (misnamed_texts word)
misuse Over = SavesOver
misuse Written = WritesOver
misuse Witnessed = WitnessOver
misuse Lost = WitnessSaved

-- what was made of them: a request, or such values
abbrev pub outcome : Result Asked Unfit → Outcome
outcome (Ok asked) = Requested (request asked)
outcome (Err unfit) = Misuses (misuse unfit)
