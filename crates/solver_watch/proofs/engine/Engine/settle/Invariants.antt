use Rattle.solver_plain.proofs.Facts.{IsUnderWay}
use Rattle.solver_watch.specs.Known.{clauses_known}
use Rattle.solver_watch.specs.Search.{IsState}
use Rattle.solver_watch.proofs.engine.Engine.settle.Given as goal

abbrev pub invariant-loop-left : goal.invariant-loop-left
invariant-loop-left l = record {
  way : IsUnderWay (clauses_known l.fn.self.formula) l.target l.fn.left (clauses_known l.self.formula) l.left;
  state : IsState l.self l.target;
}

abbrev pub decreases-loop-left : goal.decreases-loop-left
decreases-loop-left l = l.left
