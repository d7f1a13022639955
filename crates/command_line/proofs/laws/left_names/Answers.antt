use Rattle.command_line.proofs.SavedLemmas.{first-told, left-told, told-first, told-left}
use Rattle.command_line.proofs.laws.left_names.Goals as goal

pub returns : goal.returns
returns c = record {
  any = λ prefix name. (told-left prefix name, left-told prefix name);
  first = λ prefix name. (told-first prefix name, first-told prefix name);
}
