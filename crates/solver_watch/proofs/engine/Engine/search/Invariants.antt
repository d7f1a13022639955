use Rattle.std.proofs.Common.{◌≡◌, ◌*◌, ◌-◌, length}
use Rattle.solver_watch.specs.Known.{clauses_known}
use Rattle.solver_watch.specs.Search.{IsState}
use Rattle.solver_watch.proofs.engine.Engine.search.Given as goal

abbrev pub invariant-loop-found : goal.invariant-loop-found
invariant-loop-found l = record {
  state : IsState l.self l.target;
  clauses : clauses_known l.self.formula ≡ clauses_known l.initial.self.formula;
}

abbrev pub decreases-loop-found : goal.decreases-loop-found
decreases-loop-found l = 2 * length l.self.formula.trail.nodes - length l.self.formula.trail.puts
