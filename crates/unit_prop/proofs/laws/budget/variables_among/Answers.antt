use Rattle.unit_prop.proofs.BudgetLemmas.{variables-among}
use Rattle.unit_prop.proofs.laws.budget.variables_among.Goals as goal

pub returns : goal.returns
returns c = variables-among
