use Rattle.lits.proofs.Facts.{dim_laws}
use Rattle.unit_prop.proofs.AssignmentLemmas.{new-differs}
use Rattle.unit_prop.proofs.laws.dimacs.new_differs.Goals as goal

pub returns : goal.returns
returns c = new-differs dim_laws
