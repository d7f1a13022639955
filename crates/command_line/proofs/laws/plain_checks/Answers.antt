use Rattle.command_line.proofs.PlainCheckLemmas.{plain-asked, plain-uninformed}
use Rattle.command_line.proofs.laws.plain_checks.Goals as goal

pub returns : goal.returns
returns call = record {
  asked = λ words a b out r plain. plain-asked words a b out plain r;
  uninformed = plain-uninformed;
}
