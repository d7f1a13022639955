use Rattle.std.proofs.Common.{refl}
use Rattle.flat_base.specs.Codes.{lit_at}
use Rattle.watch_lists.proofs.trail.lit_of.Goals as goal

pub returns : goal.returns
unfolding lit_at
returns c = rw c.get.ensures refl
