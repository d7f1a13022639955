use Rattle.std.proofs.Common.{length}
use Rattle.std.specs.Prelude.{filter}
use Rattle.solver_plain.specs.Literals.{is_free}
use Rattle.solver_plain.specs.Formula.{variables_of}
use Rattle.solver_plain.proofs.SearchLemmas.{IsDeciding}
use Rattle.solver_plain.proofs.search.decide_in_order.Given as goal

abbrev pub invariant-loop-variable : goal.invariant-loop-variable
invariant-loop-variable l = IsDeciding l.formula l.target l.clause.items l.set

abbrev pub decreases-loop-variable : goal.decreases-loop-variable
decreases-loop-variable l = length (filter (is_free l.set) (variables_of l.formula.base))
