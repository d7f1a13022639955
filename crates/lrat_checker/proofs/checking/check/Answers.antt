use Rattle.std.proofs.Common.{subst}
use Rattle.std.proofs.lemmas.Result.{IfOk-weaker}
use Rattle.lrat_checker.specs.Verdict.{IsVerdict}
use Rattle.lrat_checker.proofs.checking.check.Goals as goal

pub returns-clause-unsatisfiable : goal.returns-clause-unsatisfiable
returns-clause-unsatisfiable c =
    let formula = c.args.cnf.now.clauses in
    let lines = c.args.lines.now in
    IfOk-weaker c.judge_by_size.result _ _
    (λ v says is. c.derived_lines.ensures.unsatisfiable formula lines (subst (IsVerdict formula lines) is says))
    c.judge_by_size.ensures
