-- The commands of the program, in the words by which `clap` says what a parse reads of a command.
use Rattle.std.specs.Prelude.{ℕ, true, List, [], ◌∷◌, Some, codes}
use Rattle.clap.specs.Walk.{Rule, Text, is_empty}
use Rattle.clap.specs.Simple.{App, Shape, new_rule, new_shape}
use Rattle.command_line.specs.declared.asked.TheConstants.{BUDGET_LIMIT, WORDS_LIMIT, WORKERS_LIMIT}
use Rattle.clap.specs.declared.builder.action.ArgAction.TheVariants.{SetTrue}
use Rattle.clap.specs.declared.builder.value_parser.ValueParser.TheVariants.{Unsigned}
use Rattle.workload_gen.specs.declared.workload.TheConstants.{MOST_BITS}

-- the greatest number of 64 bits
abbrev pub most_seed : ℕ
most_seed = 18446744073709551615

-- an argument without a name, which has to be there
abbrev pub place : Text → Rule
place id = record (new_rule id) { required = true; value_names = 1 }

-- such an argument that is a number from least to most
abbrev pub number_place : Text → ℕ → ℕ → Rule
number_place id least most = record (place id) { parser = Some (Unsigned least most) }

-- `--ID` with any text, which may be left out
abbrev pub text_option : Text → Rule
text_option id = record (new_rule id) { long = Some id; value_names = 1 }

-- `--ID` without a value, which may be left out
abbrev pub flag_option : Text → Rule
flag_option id = record (new_rule id) { long = Some id; action = Some SetTrue }

-- an option that is a number: its name and the numbers that it takes
pub record NumberOption : Type 0 where
  pub id : Text
  pub least : ℕ
  pub most : ℕ

-- `--ID` with such a number, which may be left out
abbrev pub number_option : NumberOption → Rule
number_option o = record (text_option o.id) { parser = Some (Unsigned o.least o.most) }

abbrev pub workers_option : NumberOption
workers_option = record { id = codes "workers"; least = 1; most = WORKERS_LIMIT }

abbrev pub seed_option : NumberOption
seed_option = record { id = codes "seed"; least = 0; most = most_seed }

abbrev pub words_option : NumberOption
words_option = record { id = codes "words"; least = 1; most = WORDS_LIMIT }

abbrev pub sweep_budget_option : NumberOption
sweep_budget_option = record { id = codes "sweep-budget"; least = 1; most = BUDGET_LIMIT }

abbrev pub budget_option : NumberOption
budget_option = record { id = codes "budget"; least = 1; most = BUDGET_LIMIT }

-- a command with these arguments
abbrev pub command : Text → List Rule → Shape
command name rules = record (new_shape name) { rules = rules }

-- `cec check A B [--edits F] [--out PREFIX] [--load FILE] [--save FILE] [--witness FILE] [--workers N] [--seed N] [--words N]
-- [--sweep-budget N] [--budget N] [--match BY] [--stats] [--progress]`
abbrev pub check_command : Shape
check_command = command (codes "check")
    (place (codes "a") ∷ place (codes "b") ∷ text_option (codes "edits") ∷ text_option (codes "out")
    ∷ text_option (codes "load") ∷ text_option (codes "save") ∷ text_option (codes "witness") ∷ number_option workers_option
    ∷ number_option seed_option ∷ number_option words_option ∷ number_option sweep_budget_option ∷ number_option budget_option
    ∷ text_option (codes "match") ∷ flag_option (codes "stats") ∷ flag_option (codes "progress") ∷ [])

-- `cec fraig A OUT [--out PREFIX] [--workers N] [--seed N] [--words N] [--sweep-budget N]`
abbrev pub fraig_command : Shape
fraig_command = command (codes "fraig")
    (place (codes "a") ∷ place (codes "reduced") ∷ text_option (codes "out") ∷ number_option workers_option
    ∷ number_option seed_option ∷ number_option words_option ∷ number_option sweep_budget_option ∷ [])

-- `cec lrat CNF PROOF`
abbrev pub lrat_command : Shape
lrat_command = command (codes "lrat") (place (codes "cnf") ∷ place (codes "proof") ∷ [])

-- `cec self KIND N`
abbrev pub self_command : Shape
self_command = command (codes "self") (place (codes "kind") ∷ number_place (codes "n") 1 MOST_BITS ∷ [])

-- the program with these commands, of which one has to be there, and a version; `help` is none of its own
abbrev pub program : List Shape → App
program commands = record {
  top = record (new_shape (codes "cec")) {
    is_leaf = is_empty commands;
    disable_help_subcommand = true;
    subcommand_required = true;
    has_version = true;
  };
  subs = commands;
}

abbrev pub cec_app : App
cec_app = program (check_command ∷ fraig_command ∷ lrat_command ∷ self_command ∷ [])
