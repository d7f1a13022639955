use Rattle.command_line.proofs.SavedLemmas.{none-written}
use Rattle.command_line.proofs.laws.reduced_is_apart.Goals as goal

pub returns : goal.returns
returns c = none-written
