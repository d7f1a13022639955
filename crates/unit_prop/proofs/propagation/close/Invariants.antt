-- The set is on its way from what is given to the closure, and each literal leaves fewer places of the clauses.
use Rattle.unit_prop.proofs.ClosureLemmas.{IsRound, missing_places}
use Rattle.unit_prop.proofs.propagation.close.Given as goal

abbrev pub invariant-loop-set : goal.invariant-loop-set
invariant-loop-set g l = IsRound g.L.PartialEq.eq g.L.Literal.opposite l.clauses l.initial.set l.set

abbrev pub decreases-loop-set : goal.decreases-loop-set
decreases-loop-set g l = missing_places g.L.PartialEq.eq l.set l.clauses
