use Rattle.std.proofs.Common.{subst}
use Rattle.std.specs.List.{AllByRecursion}
use Rattle.unit_prop.specs.Refuter.{IsOver}
use Rattle.solver_plain.specs.Formula.{Clauses, clauses_in}
use Rattle.solver_plain.proofs.FormulaLemmas.{all-over}
use Rattle.solver_plain.proofs.formula.Formula.next_hint.Goals as goal

pub returns-clause-over : goal.returns-clause-over
returns-clause-over c =
    subst (λ (f : Clauses). AllByRecursion (IsOver f.base) (clauses_in f)) c.self.view_is
    (all-over c.self.inside.base.items c.self.inside.log.items c.self.inside.variables c.self.invariant)
