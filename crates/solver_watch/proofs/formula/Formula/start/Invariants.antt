use Rattle.std.proofs.Common.{take}
use Rattle.solver_watch.proofs.StartLemmas.{IsStarting}
use Rattle.solver_watch.proofs.formula.Formula.start.Given as goal

abbrev pub invariant-loop-named : goal.invariant-loop-named
invariant-loop-named l = IsStarting (take l.named-index l.base) l.self
