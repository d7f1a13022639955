-- What is kept is the clause of the literals seen so far.
use Rattle.std.proofs.Common.{take}
use Rattle.lits.proofs.ClauseLemmas.{IsKept}
use Rattle.lits.proofs.clause.Clause.of.Given as goal

abbrev pub invariant-loop-lit : goal.invariant-loop-lit
invariant-loop-lit g l = IsKept g.L.PartialEq.eq g.L.Literal.opposite (take l.lit-index l.lits) l.kept
