use Rattle.command_line.proofs.CaseLemmas.{asks_alone, help_alone, info_alone, one_holds}
use Rattle.command_line.proofs.laws.words_are_one_of.Goals as goal

pub returns : goal.returns
returns c = record { some = one_holds; asked = asks_alone; informed = info_alone; helped = help_alone }
