use Rattle.solver_watch.proofs.BaseLemmas.{known-at}
use Rattle.solver_watch.proofs.engine.Engine.decide.Goals as goal

pub returns-clause-clauses : goal.returns-clause-clauses
returns-clause-clauses c = known-at c.args.self.now.formula c.decide_code.new.self c.in_ok-decide_code.ensures.ok.clauses
