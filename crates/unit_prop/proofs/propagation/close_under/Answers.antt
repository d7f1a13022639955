use Rattle.std.proofs.Common.{sym, arith}
use Rattle.std.proofs.lemmas.List.{take_all}
use Rattle.std.proofs.lemmas.Result.{IfOk-weaker}
use Rattle.lits.proofs.Facts.{IsLiteral, is_literal}
use Rattle.unit_prop.proofs.GivenLemmas.{StandsFor, given-next, given-clash, given-last}
use Rattle.unit_prop.proofs.propagation.close_under.Goals as goal

pub returns-then-has : goal.returns-then-has
returns-then-has g c =
    let laws : IsLiteral g.L.PartialEq.eq g.L.Literal.opposite = is_literal g.met.L.Eq.laws g.met.L.Literal.exact g.met.L.Literal.twice in
    given-clash laws c.args.clauses.now _ _ _ _ (omega arith) c.lit-item.is c.loop-lit.invariant
    (rw (← c.not.ensures) (sym c.if-has.ensures))

pub loop-lit-preserved : goal.loop-lit-preserved
loop-lit-preserved g c =
    let laws : IsLiteral g.L.PartialEq.eq g.L.Literal.opposite = is_literal g.met.L.Eq.laws g.met.L.Literal.exact g.met.L.Literal.twice in
    given-next laws g.met.L.Literal.differs _ _ _ _ _ (omega arith) c.lit-item.is c.loop-lit.invariant
    (rw (← c.not.ensures) (sym c.if-has.ensures)) c.in_ok-put.ensures

pub returns : goal.returns
returns g c =
    let all : StandsFor g.L.PartialEq.eq g.L.Literal.opposite c.args.lits.now c.loop-lit.set =
    rw (take_all c.loop-lit.lit-index c.args.lits.now (omega arith)) at c.loop-lit.invariant in
    IfOk-weaker c.close.result _ _ (λ r h. given-last c.args.clauses.now c.args.lits.now c.loop-lit.set r all h) c.close.ensures
