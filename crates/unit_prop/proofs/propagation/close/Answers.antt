use Rattle.lits.proofs.Facts.{IsLiteral, is_literal}
use Rattle.unit_prop.proofs.ClosureLemmas.{round-clash, round-next, round-last, missing_places-falls}
use Rattle.unit_prop.proofs.propagation.close.Goals as goal

pub returns-in-Clash : goal.returns-in-Clash
returns-in-Clash g c = round-clash c.args.clauses.now c.args.set _ c.loop-set.invariant c.in-Clash.ensures

pub returns-in-Nothing : goal.returns-in-Nothing
returns-in-Nothing g c =
    rw (c.of.ensures, c.into_vec.ensures)
    (round-last c.args.clauses.now c.args.set c.loop-set.set c.loop-set.invariant c.in-Nothing.ensures.0 c.in-Nothing.ensures.1)

pub loop-set-preserved : goal.loop-set-preserved
loop-set-preserved g c =
    let laws : IsLiteral g.L.PartialEq.eq g.L.Literal.opposite = is_literal g.met.L.Eq.laws g.met.L.Literal.exact g.met.L.Literal.twice in
    rw c.in_ok-push-in-Unit.ensures.ok
    (round-next laws g.met.L.Literal.differs c.args.clauses.now c.args.set c.loop-set.set c.in-Unit.lit c.loop-set.invariant c.in-Unit.ensures.0 c.in-Unit.ensures.1)

pub loop-set-smaller : goal.loop-set-smaller
loop-set-smaller g c =
    let laws : IsLiteral g.L.PartialEq.eq g.L.Literal.opposite = is_literal g.met.L.Eq.laws g.met.L.Literal.exact g.met.L.Literal.twice in
    rw c.in_ok-push-in-Unit.ensures.ok
    (missing_places-falls laws c.loop-set.set c.in-Unit.lit c.in-Unit.ensures.0.fresh c.args.clauses.now c.in-Unit.ensures.1)
