use Rattle.watch_lists.specs.Trail.{clause_at}
use Rattle.solver_watch.proofs.MarkedLemmas.{IsMarkingSome}
use Rattle.solver_watch.proofs.cut.Cut.mark_clause.Given as goal

abbrev pub invariant-loop-code : goal.invariant-loop-code
invariant-loop-code l = IsMarkingSome l.trail (clause_at l.trail.clauses l.number) l.code-items l.code-index l.fn.self l.self
