-- The clauses scanned so far ask for nothing.
use Rattle.std.proofs.Common.{take}
use Rattle.unit_prop.proofs.ClosureLemmas.{IsScanned}
use Rattle.unit_prop.proofs.propagation.scan.Given as goal

abbrev pub invariant-loop-clause : goal.invariant-loop-clause
invariant-loop-clause g l = IsScanned g.L.PartialEq.eq g.L.Literal.opposite l.set (take l.clause-index l.clauses)
