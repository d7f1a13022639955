use Rattle.std.proofs.lemmas.List.{take_all}
use Rattle.command_line.proofs.TableLemmas.{next_command}
use Rattle.command_line.proofs.command.commands_of.Goals as goal

pub loop-row-init : goal.loop-row-init
loop-row-init c = rw c.new-commands.ensures.items tt

pub loop-row-preserved : goal.loop-row-preserved
loop-row-preserved c =
    rw c.in_ok-push.ensures.items
    (next_command c.args.rows.now c.loop-row.row-index _ c.loop-row.commands.items c.in_ok-command_of.field-0 c.loop-row-test.true c.loop-row.invariant c.in_ok-command_of.ensures.app c.in_ok-command_of.ensures.local)

pub returns : goal.returns
returns c =
    let all = take_all c.loop-row.row-index c.args.rows.now c.loop-row-test.false in
    rw all at c.loop-row.invariant
