use Rattle.lits.proofs.Facts.{dim_laws}
use Rattle.unit_prop.proofs.StepLemmas.{step-holds}
use Rattle.unit_prop.proofs.laws.dimacs.step_holds.Goals as goal

pub returns : goal.returns
returns c = λ find clause hints v assigns holds step. step-holds dim_laws v assigns find holds clause hints step
