use Rattle.std.proofs.Common.{sym}
use Rattle.lits.proofs.Facts.{IsLiteral, is_literal}
use Rattle.unit_prop.proofs.AskLemmas.{ask-none, ask-unit, ask-satisfied, ask-more}
use Rattle.unit_prop.proofs.propagation.ask.Goals as goal

pub returns-in-Nothing : goal.returns-in-Nothing
returns-in-Nothing g c =
    let laws : IsLiteral g.L.PartialEq.eq g.L.Literal.opposite = is_literal g.met.L.Eq.laws g.met.L.Literal.exact g.met.L.Literal.twice in
    ask-none laws c.args.set.now c.args.clause.now c.in-Nothing.ensures

pub returns-then-has : goal.returns-then-has
returns-then-has g c =
    let laws : IsLiteral g.L.PartialEq.eq g.L.Literal.opposite = is_literal g.met.L.Eq.laws g.met.L.Literal.exact g.met.L.Literal.twice in
    ask-satisfied laws c.args.set.now c.args.clause.now c.in-One.lit c.in-One.ensures (sym c.if-has.ensures)

pub returns-else-has : goal.returns-else-has
returns-else-has g c =
    let laws : IsLiteral g.L.PartialEq.eq g.L.Literal.opposite = is_literal g.met.L.Eq.laws g.met.L.Literal.exact g.met.L.Literal.twice in
    ask-unit laws c.args.set.now c.args.clause.now c.in-One.lit c.in-One.ensures (sym c.if-has.ensures)

pub returns-in-More : goal.returns-in-More
returns-in-More g c =
    let laws : IsLiteral g.L.PartialEq.eq g.L.Literal.opposite = is_literal g.met.L.Eq.laws g.met.L.Literal.exact g.met.L.Literal.twice in
    ask-more laws c.args.set.now c.args.clause.now c.in-More.ensures
