use Rattle.std.proofs.Common.{sym}
use Rattle.lits.proofs.Facts.{IsLiteral, is_literal}
use Rattle.unit_prop.proofs.OpenLemmas.{open_in-one, open_in-more}
use Rattle.unit_prop.proofs.step_check.open_from.Goals as goal

pub returns-then-has_other_open : goal.returns-then-has_other_open
returns-then-has_other_open g c =
    let laws : IsLiteral g.L.PartialEq.eq g.L.Literal.opposite = is_literal g.met.L.Eq.laws g.met.L.Literal.exact g.met.L.Literal.twice in
    open_in-more laws c.args.set.now c.args.first c.args.rest.now c.requires (sym c.if-has_other_open.ensures)

pub returns-else-has_other_open : goal.returns-else-has_other_open
returns-else-has_other_open g c =
    let laws : IsLiteral g.L.PartialEq.eq g.L.Literal.opposite = is_literal g.met.L.Eq.laws g.met.L.Literal.exact g.met.L.Literal.twice in
    open_in-one laws c.args.set.now c.args.first c.args.rest.now c.requires (sym c.if-has_other_open.ensures)
