use Rattle.lits.proofs.Facts.{lit_laws}
use Rattle.unit_prop.proofs.AssignmentLemmas.{closure-true}
use Rattle.unit_prop.proofs.laws.lit.closure_holds.Goals as goal

pub returns : goal.returns
returns c = λ clauses given lits v closure. closure-true lit_laws clauses given lits closure v
