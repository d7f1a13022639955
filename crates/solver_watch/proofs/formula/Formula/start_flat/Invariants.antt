use Rattle.std.proofs.Common.{◌≡◌, [], take, map}
use Rattle.watch_lists.specs.Trail.{trail_of}
use Rattle.solver_watch.proofs.formula.Formula.start_flat.Given as goal

abbrev pub invariant-loop-number : goal.invariant-loop-number
invariant-loop-number l = record {
  names : l.self.names.items ≡ map (λ d. d.by) (take l.number l.base.clauses);
  log : l.self.log.items ≡ [];
  trail : l.self.trail ≡ trail_of l.base;
}
