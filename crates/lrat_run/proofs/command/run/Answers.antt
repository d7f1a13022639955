use Rattle.std.proofs.Common.{subst}
use Rattle.lrat_checker.specs.declared.verdict.Verdict.{Verdict}
use Rattle.lrat_run.specs.Answers.{Says}
use Rattle.lrat_run.proofs.JudgingLemmas.{verifies, ends, ends-counts}
use Rattle.lrat_run.proofs.command.run.Goals as goal

pub returns-in-Ok-Refuted-clause-answers : goal.returns-in-Ok-Refuted-clause-answers
returns-in-Ok-Refuted-clause-answers g c =
    let cnf = c.args.cnf.now in
    let proof = c.args.proof.now in
    let old = g.D.Desk.state c.args.desk.now in
    let new = g.D.Desk.state c.judge.new.desk in
    verifies cnf proof old new
    (subst (λ (v : Verdict). Says cnf proof old new v) c.in-Ok-Refuted.field-0-is c.in-Ok-Refuted.ensures)

pub returns-in-Err-clause-answers : goal.returns-in-Err-clause-answers
returns-in-Err-clause-answers g c =
    ends c.args.cnf.now c.args.proof.now (g.D.Desk.state c.args.desk.now) (g.D.Desk.state c.judge.new.desk)
    (g.D.Desk.state c.end.new.desk) c.in-Err.stop c.end.result c.in-Err.ensures c.end.ensures

pub returns-in-Err-clause-counts : goal.returns-in-Err-clause-counts
returns-in-Err-clause-counts g c =
    ends-counts c.args.cnf.now c.args.proof.now (g.D.Desk.state c.args.desk.now) (g.D.Desk.state c.judge.new.desk)
    (g.D.Desk.state c.end.new.desk) c.in-Err.stop c.end.result c.in-Err.ensures c.end.ensures
