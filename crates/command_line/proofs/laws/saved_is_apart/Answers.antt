use Rattle.command_line.proofs.SavedLemmas.{none-over}
use Rattle.command_line.proofs.laws.saved_is_apart.Goals as goal

pub returns : goal.returns
returns c = λ words c prefix name asks. none-over words c asks prefix name
