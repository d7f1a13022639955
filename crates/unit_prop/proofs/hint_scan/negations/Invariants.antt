-- The set has the negations of the literals seen so far.
use Rattle.std.proofs.Common.{◌≡◌, take}
use Rattle.std.specs.Prelude.{map}
use Rattle.lits.specs.Same.{opposite}
use Rattle.unit_prop.proofs.hint_scan.negations.Given as goal

abbrev pub invariant-loop-lit : goal.invariant-loop-lit
invariant-loop-lit l = l.set ≡ map opposite (take l.lit-index l.clause)
