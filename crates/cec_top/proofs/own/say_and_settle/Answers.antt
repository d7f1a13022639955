use Rattle.std.proofs.Common.{ap}
use Rattle.check_session.specs.Check.{State}
use Rattle.command_line.specs.Answers.{self_texts}
use Rattle.cec_top.proofs.OwnLemmas.{at-workload, own-ok, own-err}
use Rattle.cec_top.proofs.own.say_and_settle.Goals as goal

pub run_script-requires-clause-unedited : goal.run_script-requires-clause-unedited
run_script-requires-clause-unedited g c κs within = ap (λ (s : State). s.edits) c.requires.made.1

pub returns-clause-ok : goal.returns-clause-ok
returns-clause-ok g c =
    let old = g.D.Desk.state c.args.desk.now in
    let mid = g.D.Desk.state c.say_workload.new.desk in
    let new = g.D.Desk.state c.run_script.new.desk in
    let s = c.args.session.now in
    let w = self_texts c.args.words in
    own-ok w s c.requires.made.0 c.requires.made.1 old mid new
    (at-workload w c.net.result.now s.net old mid c.net.ensures c.in_ok-say_workload.ensures) c.run_script.new.kept.items
    c.run_script.result c.run_script.ensures

pub returns-clause-err : goal.returns-clause-err
returns-clause-err g c =
    let old = g.D.Desk.state c.args.desk.now in
    let mid = g.D.Desk.state c.say_workload.new.desk in
    let new = g.D.Desk.state c.run_script.new.desk in
    let s = c.args.session.now in
    let w = self_texts c.args.words in
    own-err w s c.requires.made.0 c.requires.made.1 old mid new
    (at-workload w c.net.result.now s.net old mid c.net.ensures c.in_ok-say_workload.ensures) c.run_script.new.kept.items
    c.run_script.result c.run_script.ensures
