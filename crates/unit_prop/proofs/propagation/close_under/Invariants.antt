-- The set stands for the literals taken so far.
use Rattle.std.proofs.Common.{take}
use Rattle.unit_prop.proofs.GivenLemmas.{StandsFor}
use Rattle.unit_prop.proofs.propagation.close_under.Given as goal

abbrev pub invariant-loop-lit : goal.invariant-loop-lit
invariant-loop-lit g l = StandsFor g.L.PartialEq.eq g.L.Literal.opposite (take l.lit-index l.lits) l.set
