-- What a row of the table means to a parse.
use Rattle.std.specs.Prelude.{◌≡◌, false, List, [], ◌∷◌, map}
use Rattle.clap.specs.Walk.{Rule, Text}
use Rattle.clap.specs.Simple.{App, Shape}
use Rattle.clap.specs.Words.{app_of}
use Rattle.clap.specs.declared.builder.command.Command.{Command}
use Rattle.clap.specs.declared.builder.command.Command.TheViews.{out-Command as fields_of}
use Rattle.command_line.specs.Commands.{command, flag_option, number_option, number_place, place, text_option}
use Rattle.command_line.specs.declared.table.ArgumentRow.{ArgumentRow}
use Rattle.command_line.specs.declared.table.CommandRow.{CommandRow}
use Rattle.command_line.specs.declared.table.Takes.{Takes}
use Rattle.command_line.specs.declared.table.Takes.TheVariants as takes

abbrev pub rule_of_takes : Takes → Text → Rule
rule_of_takes takes.Place id = place id
rule_of_takes (takes.Count least most) id = number_place id least most
rule_of_takes takes.Text id = text_option id
rule_of_takes (takes.Number least most) id = number_option (record { id = id; least = least; most = most })
rule_of_takes takes.Flag id = flag_option id

abbrev pub rule_in : ArgumentRow → Rule
rule_in row = rule_of_takes row.takes row.name.now

abbrev pub shape_in : CommandRow → Shape
shape_in row = command row.name.now (map rule_in row.arguments.now)

-- a command without subcommands
abbrev pub leaf : Shape → App
leaf shape = record { top = shape; subs = [] }

abbrev pub leaf_in : CommandRow → App
leaf_in row = leaf (shape_in row)

-- each command is that of its row, with arguments of its own alone
abbrev pub AreCommands : List Command → List CommandRow → Type 0
AreCommands [] [] = Unit {0}
AreCommands (x ∷ xs) (y ∷ ys) = ((app_of x ≡ leaf_in y) × ((fields_of x).has_globals ≡ false)) × AreCommands xs ys
AreCommands [] (y ∷ ys) = ⊥
AreCommands (x ∷ xs) [] = ⊥
