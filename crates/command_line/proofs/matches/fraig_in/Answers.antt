use Rattle.command_line.proofs.GetterLemmas.{command_there}
use Rattle.command_line.proofs.matches.fraig_in.Goals as goal

pub fraig_words-fraig-requires : goal.fraig_words-fraig-requires
fraig_words-fraig-requires c = command_there _ _ c.requires
