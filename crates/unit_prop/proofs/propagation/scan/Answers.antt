use Rattle.std.proofs.Common.{◌∙◌}
use Rattle.unit_prop.proofs.ClosureLemmas.{scanned-next, found-here, scanned-all}
use Rattle.unit_prop.proofs.propagation.scan.Goals as goal

pub returns-in_default : goal.returns-in_default
returns-in_default g c =
    found-here g.L.PartialEq.eq g.L.Literal.opposite c.args.set.now c.args.clauses.now c.loop-clause.clause-index c.lits.result.now c.clause-item.result c.ask.result
    c.loop-clause-test.true (c.lits.ensures.lits ∙ c.clause-item.is) c.in_default.not-Nothing c.ask.ensures

pub loop-clause-preserved : goal.loop-clause-preserved
loop-clause-preserved g c =
    scanned-next g.L.PartialEq.eq g.L.Literal.opposite c.args.set.now c.args.clauses.now c.loop-clause.clause-index c.lits.result.now c.clause-item.result
    c.loop-clause-test.true (c.lits.ensures.lits ∙ c.clause-item.is) c.loop-clause.invariant c.in-Nothing.ensures

pub returns : goal.returns
returns g c = scanned-all g.L.PartialEq.eq g.L.Literal.opposite c.args.set.now c.args.clauses.now c.loop-clause.clause-index c.loop-clause-test.false c.loop-clause.invariant
