use Rattle.std.proofs.Common.{◌≡◌, [], rules}
use Rattle.std.proofs.lemmas.Result.{IfOk-weaker}
use Rattle.clap.specs.Words.{app_of}
use Rattle.command_line.specs.Commands.{program}
use Rattle.command_line.proofs.TableLemmas.{with_commands}
use Rattle.command_line.proofs.command.program_of.Goals as goal

pub returns : goal.returns
returns c =
    let alone : app_of c.disable_help_subcommand.result ≡ program [] = search rules in
    IfOk-weaker c.subcommands.result _ _
    (λ made turn.
    with_commands c.in_ok-commands.commands.items c.args.rows.now [] c.disable_help_subcommand.result made
    c.in_ok-commands.ensures alone turn)
    c.subcommands.ensures
