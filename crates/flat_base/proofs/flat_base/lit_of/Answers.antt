use Rattle.std.proofs.Common.{refl}
use Rattle.flat_base.specs.Codes.{lit_at}
use Rattle.flat_base.proofs.flat_base.lit_of.Goals as goal

pub returns : goal.returns
unfolding lit_at
returns c = refl
