-- The set has the literals seen so far, each once.
use Rattle.std.proofs.Common.{◌≡◌, take}
use Rattle.lits.specs.Clause.{firsts}
use Rattle.lits.proofs.literal_set.LiteralSet.of.Given as goal

abbrev pub invariant-loop-lit : goal.invariant-loop-lit
invariant-loop-lit g l = l.set ≡ firsts g.L.PartialEq.eq (take l.lit-index l.lits)
