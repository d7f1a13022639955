-- The set has the negations of the literals seen so far, among which no two are complementary.
use Rattle.std.proofs.Common.{take}
use Rattle.unit_prop.specs.Propagation.{IsConsistent}
use Rattle.unit_prop.proofs.AssumeLemmas.{IsAssumed}
use Rattle.unit_prop.proofs.step_check.assume_all.Given as goal

abbrev pub invariant-loop-lit : goal.invariant-loop-lit
invariant-loop-lit g l = record {
  assumed : IsAssumed g.L.PartialEq.eq g.L.Literal.opposite (take l.lit-index l.clause) l.set;
  consistent : IsConsistent g.L.PartialEq.eq g.L.Literal.opposite l.set;
}
