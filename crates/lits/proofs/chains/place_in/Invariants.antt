-- The literal isn't among those so far.
use Rattle.std.proofs.Common.{◌≡◌, false, take}
use Rattle.lits.specs.Clause.{has}
use Rattle.lits.proofs.chains.place_in.Given as goal

abbrev pub invariant-loop-place : goal.invariant-loop-place
invariant-loop-place g l = has g.L.PartialEq.eq (take l.place l.lits) l.lit ≡ false
