use Rattle.lits.specs.Same.{same_lit, opposite}
use Rattle.unit_prop.proofs.AssignmentLemmas.{step-more}
use Rattle.unit_prop.proofs.laws.lit.step_over_more.Goals as goal

pub returns : goal.returns
returns c = λ find more clause hints within step. step-more same_lit opposite find more within clause hints step
