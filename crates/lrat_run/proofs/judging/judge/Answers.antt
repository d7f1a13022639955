use Rattle.std.proofs.lemmas.Result.{err_from_is_err_and}
use Rattle.lrat_run.proofs.JudgingLemmas.{stops-proof, said, unsaid}
use Rattle.lrat_run.proofs.judging.judge.Goals as goal

pub returns-in_err-verdict : goal.returns-in_err-verdict
returns-in_err-verdict g c =
    let p = err_from_is_err_and c.from_residual-in_err-verdict.result c.from_residual-in_err-verdict.ensures.1 in
    rw (p.1, p.2)
    (stops-proof c.args.cnf.now c.args.proof.now (g.D.Desk.state c.args.desk.now) (g.D.Desk.state c.read_formula.new.desk)
    c.in_ok-formula.formula c.in_ok-formula.ensures
    (g.D.Desk.state c.judge_proof.new.desk) _ c.in_err-verdict.ensures.verdict)

pub returns-in_err-say_verdict : goal.returns-in_err-say_verdict
returns-in_err-say_verdict g c =
    let p = err_from_is_err_and c.from_residual-in_err-say_verdict.result c.from_residual-in_err-say_verdict.ensures.1 in
    rw (p.1, p.2)
    (unsaid c.args.cnf.now c.args.proof.now (g.D.Desk.state c.args.desk.now) (g.D.Desk.state c.read_formula.new.desk)
    c.in_ok-formula.formula c.in_ok-formula.ensures
    (g.D.Desk.state c.judge_proof.new.desk) c.in_ok-verdict.verdict c.in_ok-verdict.ensures.verdict
    (g.D.Desk.state c.say_verdict.new.desk) _ c.in_err-say_verdict.ensures)

pub returns : goal.returns
returns g c =
    said c.args.cnf.now c.args.proof.now (g.D.Desk.state c.args.desk.now) (g.D.Desk.state c.read_formula.new.desk)
    c.in_ok-formula.formula c.in_ok-formula.ensures
    (g.D.Desk.state c.judge_proof.new.desk) c.in_ok-verdict.verdict c.in_ok-verdict.ensures.verdict
    (g.D.Desk.state c.say_verdict.new.desk)
    c.in_ok-verdict.ensures.unsatisfiable c.in_ok-say_verdict.ensures
