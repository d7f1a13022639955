use Rattle.unit_prop.proofs.BudgetLemmas.{budget_log-length}
use Rattle.unit_prop.proofs.laws.budget.budget_log_length.Goals as goal

pub returns : goal.returns
returns c = budget_log-length
