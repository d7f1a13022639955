use Rattle.std.proofs.Common.{◌∙◌, ap, sym}
use Rattle.std.specs.Prelude.{option_map}
use Rattle.clap.proofs.WalkLemmas.{first_value-rows}
use Rattle.clap.specs.Words.{found_of}
use Rattle.command_line.proofs.GetterLemmas.{shown_is_there}
use Rattle.command_line.proofs.matches.text.Goals as goal

pub unwrap-requires : goal.unwrap-requires
unwrap-requires c =
    shown_is_there _ _ _ _ c.get_str.ensures (first_value-rows (found_of c.args.matches.now) c.args.id.now) c.requires

pub returns : goal.returns
returns c =
    sym (first_value-rows (found_of c.args.matches.now) c.args.id.now) ∙ sym c.get_str.ensures
    ∙ ap (option_map (λ s. s.now)) c.unwrap.ensures
