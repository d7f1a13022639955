use Rattle.unit_prop.proofs.BudgetLemmas.{never-spent}
use Rattle.unit_prop.proofs.laws.budget.never_spent.Goals as goal

pub returns : goal.returns
returns c = never-spent
