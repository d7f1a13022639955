use Rattle.solver_plain.proofs.SearchLemmas.{sound-negations, clash-not_open, step-reached}
use Rattle.solver_plain.proofs.search.learned.Goals as goal

pub scan-requires : goal.scan-requires
scan-requires c =
    rw c.in_ok-set.ensures (sound-negations c.args.formula.now c.args.lits.now c.requires.clause c.requires.over)

pub unreachable-requires : goal.unreachable-requires
unreachable-requires c =
    clash-not_open c.args.formula.now c.args.lits.now c.scan.new.set c.requires.clause.once c.requires.clashes
    (rw c.in_ok-set.ensures at (rw c.in_default.is at c.in_ok-hints.ensures))

pub from_slice-requires : goal.from_slice-requires
from_slice-requires c = c.requires.clause

pub returns-clause-step : goal.returns-clause-step
returns-clause-step c =
    rw c.in_ok-clause.ensures
    (step-reached c.args.formula.now c.args.lits.now c.in-Some.hints c.requires.clause.apart
    (rw c.in_ok-set.ensures at (rw c.in-Some.is at c.in_ok-hints.ensures)))
