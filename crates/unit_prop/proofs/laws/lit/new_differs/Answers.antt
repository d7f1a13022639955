use Rattle.lits.proofs.Facts.{lit_laws}
use Rattle.unit_prop.proofs.AssignmentLemmas.{new-differs}
use Rattle.unit_prop.proofs.laws.lit.new_differs.Goals as goal

pub returns : goal.returns
returns c = new-differs lit_laws
