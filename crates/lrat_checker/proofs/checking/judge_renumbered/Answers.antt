use Rattle.std.proofs.Common.{List, sym, subst}
use Rattle.std.proofs.lemmas.Result.{IfOk-weaker}
use Rattle.lits.specs.Dimacs.{DimacsLiteral}
use Rattle.lrat_text.specs.declared.step.Line.{Line}
use Rattle.lrat_checker.specs.Renamed.{AreRenamed}
use Rattle.lrat_checker.proofs.RenamedVerdicts.{verdict-renamed}
use Rattle.lrat_checker.proofs.checking.judge_renumbered.Goals as goal

pub returns : goal.returns
returns c =
    let formula = c.args.formula.now in
    let lines = c.args.lines.now in
    let renamed =
    subst (λ (clauses : List (List DimacsLiteral)). AreRenamed formula lines clauses c.as_slice-2.result.now) (sym c.as_slice.ensures.value)
    (subst (λ (ls : List Line). AreRenamed formula lines c.in_ok-formula.formula.items ls) (sym c.as_slice-2.ensures.value) c.in_ok-formula.ensures) in
    IfOk-weaker c.judge.result _ _
    (λ v says. verdict-renamed formula lines c.as_slice.result.now c.as_slice-2.result.now renamed v says) c.judge.ensures
