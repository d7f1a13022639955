use Rattle.lits.proofs.Facts.{lit_laws}
use Rattle.unit_prop.proofs.AssignmentLemmas.{clash-false}
use Rattle.unit_prop.proofs.laws.lit.clash_refutes.Goals as goal

pub returns : goal.returns
returns c = λ clauses given v clash. clash-false lit_laws clauses given clash v
