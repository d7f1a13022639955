use Rattle.unit_prop.proofs.BudgetLemmas.{units-last}
use Rattle.unit_prop.proofs.laws.budget.budget_lasts.Goals as goal

pub returns : goal.returns
returns c = units-last
