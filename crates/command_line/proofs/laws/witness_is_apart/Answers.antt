use Rattle.command_line.proofs.SavedLemmas.{none-saved, none-shown}
use Rattle.command_line.proofs.laws.witness_is_apart.Goals as goal

pub returns : goal.returns
returns c = record {
  left = λ words c prefix name asks. none-shown words c asks prefix name;
  saved = λ words c name lemmas asks. none-saved words c asks name lemmas;
}
