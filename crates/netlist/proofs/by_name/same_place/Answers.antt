use Rattle.std.proofs.Common.{◌∙◌, sym, ap}
use Rattle.std.specs.Option.{option_copied}
use Rattle.netlist.specs.ByName.{place_named}
use Rattle.netlist.proofs.IndexLemmas.{place-unnamed}
use Rattle.netlist.proofs.by_name.same_place.Goals as goal

pub returns-in-None : goal.returns-in-None
returns-in-None c = λ b is. sym (ap (place_named b) (sym c.get.ensures ∙ ap option_copied c.in-None.is) ∙ place-unnamed b)
