use Rattle.lits.proofs.Facts.{IsLiteral, is_literal}
use Rattle.unit_prop.proofs.OpenLemmas.{hint-nothing, hint-taken, hint-refused, hint-more, taken-consistent}
use Rattle.unit_prop.proofs.step_check.StepCheck.hint.Goals as goal

pub returns-in-Nothing-clause-ok : goal.returns-in-Nothing-clause-ok
returns-in-Nothing-clause-ok g c =
    let laws : IsLiteral g.L.PartialEq.eq g.L.Literal.opposite = is_literal g.met.L.Eq.laws g.met.L.Literal.exact g.met.L.Literal.twice in
    hint-nothing laws (record { is = c.self.view_is; quiet = c.if-self.false; consistent = c.self.invariant }) c.args.clause.now c.in-Nothing.ensures

pub returns-in-One-clause-ok : goal.returns-in-One-clause-ok
returns-in-One-clause-ok g c =
    let laws : IsLiteral g.L.PartialEq.eq g.L.Literal.opposite = is_literal g.met.L.Eq.laws g.met.L.Literal.exact g.met.L.Literal.twice in
    hint-taken laws (record { is = c.self.view_is; quiet = c.if-self.false; consistent = c.self.invariant }) c.args.clause.now c.take_open.result _ _ c.in-One.ensures c.take_open.ensures.ok

pub returns-in-One-clause-bad : goal.returns-in-One-clause-bad
returns-in-One-clause-bad g c =
    let laws : IsLiteral g.L.PartialEq.eq g.L.Literal.opposite = is_literal g.met.L.Eq.laws g.met.L.Literal.exact g.met.L.Literal.twice in
    hint-refused laws (record { is = c.self.view_is; quiet = c.if-self.false; consistent = c.self.invariant }) c.args.clause.now c.take_open.result _ c.in-One.ensures c.take_open.ensures.bad

pub invariant_of-self-in-One : goal.invariant_of-self-in-One
invariant_of-self-in-One g c =
    let laws : IsLiteral g.L.PartialEq.eq g.L.Literal.opposite = is_literal g.met.L.Eq.laws g.met.L.Literal.exact g.met.L.Literal.twice in
    taken-consistent laws (record { is = c.self.view_is; quiet = c.if-self.false; consistent = c.self.invariant }) c.args.clause.now g.met.L.Literal.differs c.take_open.result _ _ c.in-One.ensures c.take_open.ensures.ok c.take_open.ensures.refused

pub returns-in-More-clause-bad : goal.returns-in-More-clause-bad
returns-in-More-clause-bad g c =
    let laws : IsLiteral g.L.PartialEq.eq g.L.Literal.opposite = is_literal g.met.L.Eq.laws g.met.L.Literal.exact g.met.L.Literal.twice in
    hint-more laws (record { is = c.self.view_is; quiet = c.if-self.false; consistent = c.self.invariant }) c.args.clause.now c.in-More.ensures _ c.fault_of_more.ensures
