-- A node has a number exactly where a clause names it.
use Rattle.std.proofs.Common.{◌∙◌, ap}
use Rattle.std.specs.Option.{is_some}
use Rattle.flat_cones.specs.Spots.{number_at}
use Rattle.flat_cones.specs.Numbered.{Cone}
use Rattle.flat_cones.proofs.NumberLemmas.{names-node}
use Rattle.flat_cones.proofs.cones.Cones.names.Goals as goal

pub returns : goal.returns
returns c =
    c.is_some.ensures ∙ ap is_some c.number.ensures.number
    ∙ ap (λ (k : Cone). is_some (number_at k.spots c.variable.result)) c.self.view_is
    ∙ names-node c.args.net.now c.args.self.now.spots c.args.self.now.base c.requires.numbered c.args.node c.variable.result c.variable.ensures.variable
