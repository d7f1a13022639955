use Rattle.lrat_checker.proofs.TextLemmas.{refuted-text}
use Rattle.lrat_checker.proofs.text.check_text.Goals as goal

pub returns-clause-unsatisfiable : goal.returns-clause-unsatisfiable
returns-clause-unsatisfiable c =
    refuted-text c.args.cnf.now.clauses c.args.text.now c.judge_by_reach.result c.judge_by_reach.ensures c.derived_lines.ensures.unsatisfiable
