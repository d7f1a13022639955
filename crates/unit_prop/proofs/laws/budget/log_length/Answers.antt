use Rattle.unit_prop.proofs.BudgetLemmas.{log-length}
use Rattle.unit_prop.proofs.laws.budget.log_length.Goals as goal

pub returns : goal.returns
returns c = log-length
