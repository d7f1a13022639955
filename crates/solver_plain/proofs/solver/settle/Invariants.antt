use Rattle.solver_plain.proofs.SettleLemmas.{IsUnderWay}
use Rattle.solver_plain.proofs.solver.settle.Given as goal

abbrev pub invariant-loop-left : goal.invariant-loop-left
invariant-loop-left l = IsUnderWay l.fn.formula l.target l.fn.left l.formula l.left

abbrev pub decreases-loop-left : goal.decreases-loop-left
decreases-loop-left l = l.left
