-- Variables are small.
use Rattle.flat_cones.proofs.GateLemmas.{variable-small}
use Rattle.flat_cones.proofs.nodes.dim.Goals as goal

pub new-requires : goal.new-requires
new-requires c = (c.requires.variable.0, variable-small c.args.net.now c.requires.net c.args.variable c.requires.variable)
