use Rattle.std.proofs.Common.{[]}
use Rattle.std.proofs.lemmas.List.{take_all}
use Rattle.std.proofs.lemmas.Result.{IfOk-weaker}
use Rattle.command_line.proofs.TableLemmas.{next_argument, with_arguments}
use Rattle.command_line.proofs.command.command_of.Goals as goal

pub loop-argument-init : goal.loop-argument-init
loop-argument-init c = rw c.new-arguments.ensures.items tt

pub loop-argument-preserved : goal.loop-argument-preserved
loop-argument-preserved c =
    rw c.in_ok-push.ensures.items
    (next_argument c.args.row.now.arguments.now c.loop-argument.argument-index _ c.loop-argument.arguments.items c.argument_of.result c.loop-argument-test.true c.loop-argument.invariant c.argument_of.ensures.rule c.argument_of.ensures.local)

pub returns-clause-app : goal.returns-clause-app
returns-clause-app c =
    let all = take_all c.loop-argument.argument-index c.args.row.now.arguments.now c.loop-argument-test.false in
    IfOk-weaker c.args-2.result _ _
    (λ made turn.
    (with_arguments c.args.row.now.name.now c.loop-argument.arguments.items c.args.row.now.arguments.now [] c.new_command.result made
    (rw all at c.loop-argument.invariant) c.new_command.ensures.app c.new_command.ensures.local turn).0) c.args-2.ensures

pub returns-clause-local : goal.returns-clause-local
returns-clause-local c =
    IfOk-weaker c.args-2.result _ _
    (λ made turn.
    (with_arguments c.args.row.now.name.now c.loop-argument.arguments.items _ [] c.new_command.result made
    c.loop-argument.invariant c.new_command.ensures.app c.new_command.ensures.local turn).1) c.args-2.ensures
