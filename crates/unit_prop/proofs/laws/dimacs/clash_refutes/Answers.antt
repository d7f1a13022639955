use Rattle.lits.proofs.Facts.{dim_laws}
use Rattle.unit_prop.proofs.AssignmentLemmas.{clash-false}
use Rattle.unit_prop.proofs.laws.dimacs.clash_refutes.Goals as goal

pub returns : goal.returns
returns c = λ clauses given v clash. clash-false dim_laws clauses given clash v
