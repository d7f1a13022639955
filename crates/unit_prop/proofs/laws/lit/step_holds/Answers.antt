use Rattle.lits.proofs.Facts.{lit_laws}
use Rattle.unit_prop.proofs.StepLemmas.{step-holds}
use Rattle.unit_prop.proofs.laws.lit.step_holds.Goals as goal

pub returns : goal.returns
returns c = λ find clause hints v assigns holds step. step-holds lit_laws v assigns find holds clause hints step
