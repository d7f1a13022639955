use Rattle.lits.specs.Same.{same_dim, opposite_dim}
use Rattle.unit_prop.proofs.AssignmentLemmas.{step-more}
use Rattle.unit_prop.proofs.laws.dimacs.step_over_more.Goals as goal

pub returns : goal.returns
returns c = λ find more clause hints within step. step-more same_dim opposite_dim find more within clause hints step
