use Rattle.lits.proofs.Facts.{dim_laws}
use Rattle.unit_prop.proofs.AssignmentLemmas.{closure-true}
use Rattle.unit_prop.proofs.laws.dimacs.closure_holds.Goals as goal

pub returns : goal.returns
returns c = λ clauses given lits v closure. closure-true dim_laws clauses given lits closure v
