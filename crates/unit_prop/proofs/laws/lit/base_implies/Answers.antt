use Rattle.lits.proofs.Facts.{lit_laws}
use Rattle.unit_prop.proofs.ChainLemmas.{base-implies}
use Rattle.unit_prop.proofs.laws.lit.base_implies.Goals as goal

pub returns : goal.returns
returns c = base-implies lit_laws
