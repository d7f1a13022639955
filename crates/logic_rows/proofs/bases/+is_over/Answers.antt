use Rattle.std.proofs.Common.{sym, ◌∙◌}
use Rattle.solver_plain.proofs.Facts.{over-cons}
use Rattle.logic_rows.proofs.bases.+is_over.Goals as goal

pub returns : goal.returns
returns t c =
    over-cons c.is_over.result c.args.base.now c.args.lits.now c.in-Some.first.now c.in-Some.rest.now c.in-Some.ensures.cases.0
    (sym c.mentions.ensures ∙ c.if-not-mentions.false) c.is_over.ensures
