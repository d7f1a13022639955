use Rattle.std.proofs.Common.{refl}
use Rattle.sig_classes.specs.Alike.{mixed}
use Rattle.sig_classes.proofs.alike.mixed.Goals as goal

pub returns : goal.returns
unfolding mixed
returns c = refl
