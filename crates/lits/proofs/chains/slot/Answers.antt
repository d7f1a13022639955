use Rattle.std.proofs.Common.{refl}
use Rattle.lits.specs.Chains.{slot_of}
use Rattle.lits.proofs.chains.slot.Goals as goal

pub returns-clause-value : goal.returns-clause-value
unfolding slot_of
returns-clause-value c = rw c.from.ensures refl
