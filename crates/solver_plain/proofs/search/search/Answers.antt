use Rattle.solver_plain.proofs.SearchLemmas.{sound-negations, closure-once}
use Rattle.solver_plain.proofs.search.search.Goals as goal

pub scan-requires : goal.scan-requires
scan-requires c =
    rw (c.in_ok-set.ensures, c.lits.ensures.lits)
    (sound-negations c.args.formula.now c.args.target.now c.lits.ensures.clause c.requires)

pub decide_in_order-requires-clause-undecided : goal.decide_in_order-requires-clause-undecided
decide_in_order-requires-clause-undecided c =
    closure-once c.args.formula.now c.args.target.now c.scan.new.set c.lits.ensures.clause.once
    (rw (c.in_ok-set.ensures, c.lits.ensures.lits) at (rw c.in-None.is at c.in_ok-hints.ensures))
