use Rattle.lits.proofs.Facts.{lit_laws}
use Rattle.unit_prop.proofs.ChainLemmas.{steps-hold}
use Rattle.unit_prop.proofs.laws.lit.steps_hold.Goals as goal

pub returns : goal.returns
returns c = steps-hold lit_laws
