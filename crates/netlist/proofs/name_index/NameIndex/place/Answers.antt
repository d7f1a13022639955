use Rattle.std.proofs.Common.{◌∙◌}
use Rattle.netlist.proofs.IndexLemmas.{found-at}
use Rattle.netlist.proofs.name_index.NameIndex.place.Goals as goal

pub returns : goal.returns
returns c names is =
    c.copied.ensures ∙ c.get.ensures.value
    ∙ found-at c.args.self.now.places c.number.result c.args.name.now c.number.ensures ∙ is.finds c.args.name.now
