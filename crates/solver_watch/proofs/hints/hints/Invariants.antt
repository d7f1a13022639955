use Rattle.std.proofs.Common.{◌≤◌}
use Rattle.solver_plain.specs.Formula.{clause_named}
use Rattle.solver_watch.specs.Known.{clauses_known}
use Rattle.solver_watch.proofs.HintLemmas.{IsHinting}
use Rattle.solver_watch.proofs.hints.hints.Given as goal

abbrev pub invariant-loop-place : goal.invariant-loop-place
invariant-loop-place l =
    (l.from ≤ l.place) × IsHinting (clause_named (clauses_known l.formula)) l.formula.trail l.cut.marks l.goal l.place l.hints.items
