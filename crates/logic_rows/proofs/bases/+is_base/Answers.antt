use Rattle.std.proofs.Common.{sym, ◌∙◌}
use Rattle.solver_plain.proofs.Facts.{base-cons}
use Rattle.unit_prop.proofs.Facts.{named-cons}
use Rattle.logic_rows.proofs.bases.+is_base.Goals as goal

pub returns-clause-base : goal.returns-clause-base
returns-clause-base t c =
    base-cons c.is_base.result c.args.base.now c.in-Some.first.now c.in-Some.rest.now c.in-Some.ensures.cases.0
    (sym c.is_own.ensures ∙ c.if-is_own.false) (sym c.has_name.ensures ∙ c.if-has_name.false) c.is_base.ensures.base

pub returns-clause-named : goal.returns-clause-named
returns-clause-named t c =
    named-cons c.is_base.result c.args.base.now c.in-Some.first.now c.in-Some.rest.now c.in-Some.ensures.cases.0
    (sym c.has_name.ensures ∙ c.if-has_name.false) c.is_base.ensures.named
