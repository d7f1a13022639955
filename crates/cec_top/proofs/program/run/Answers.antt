use Rattle.std.proofs.Common.{map}
use Rattle.std.specs.Prelude.{string_bytes}
use Rattle.command_line.specs.Answers.{check_texts, fraig_texts, self_texts}
use Rattle.cec_top.proofs.ClosedLemmas.{check-closed, lrat-closed, self-closed, refusal-closed}
use Rattle.cec_top.proofs.FraigLemmas.{fraig-closed}
use Rattle.cec_top.proofs.HelpLemmas.{refusal-answers}
use Rattle.cec_top.proofs.program.run.Goals as goal

pub returns-in-Ok-Check-clause-closed : goal.returns-in-Ok-Check-clause-closed
returns-in-Ok-Check-clause-closed g c = λ below.
    check-closed (check_texts c.in-Ok-Check.words) (g.D.Desk.state c.args.desk.now) (g.D.Desk.state c.check_files.new.desk) c.check_files.result.0
    c.check_files.result.1.items c.check_files.ensures below c.requires

pub returns-in-Ok-Fraig-clause-closed : goal.returns-in-Ok-Fraig-clause-closed
returns-in-Ok-Fraig-clause-closed g c = λ below.
    fraig-closed (fraig_texts c.in-Ok-Fraig.words) (g.D.Desk.state c.args.desk.now) (g.D.Desk.state c.reduce_file.new.desk) c.reduce_file.result.0
    c.reduce_file.result.1.items c.reduce_file.ensures below c.requires

pub returns-in-Ok-Lrat-clause-closed : goal.returns-in-Ok-Lrat-clause-closed
returns-in-Ok-Lrat-clause-closed g c = λ below.
    lrat-closed c.in-Ok-Lrat.words.cnf.now c.in-Ok-Lrat.words.proof.now (g.D.Desk.state c.args.desk.now) (g.D.Desk.state c.run-status.new.desk)
    c.run-status.result c.run-status.ensures.answers below c.requires

pub returns-in-Ok-SelfCheck-clause-closed : goal.returns-in-Ok-SelfCheck-clause-closed
returns-in-Ok-SelfCheck-clause-closed g c = λ below.
    self-closed (self_texts c.in-Ok-SelfCheck.words) (g.D.Desk.state c.args.desk.now) (g.D.Desk.state c.check_workload.new.desk)
    c.check_workload.result.0 c.check_workload.result.1.items c.check_workload.ensures below c.requires

pub returns-in-Err-clause-closed : goal.returns-in-Err-clause-closed
returns-in-Err-clause-closed g c = λ below.
    refusal-closed c.in-Err.refusal (g.D.Desk.state c.args.desk.now) (g.D.Desk.state c.answer_refusal.new.desk) c.answer_refusal.result
    c.answer_refusal.ensures below c.requires

pub returns-in-Err-clause-answers : goal.returns-in-Err-clause-answers
returns-in-Err-clause-answers g c =
    refusal-answers (map string_bytes c.args.words.now) (g.D.Desk.state c.args.desk.now) (g.D.Desk.state c.answer_refusal.new.desk)
    c.answer_refusal.result c.new-in-Err.result.items c.in-Err.refusal c.in-Err.ensures.refused c.new-in-Err.ensures.items
    c.answer_refusal.ensures
