-- A node that has a variable is there.
use Rattle.std.proofs.Common.{◌∙◌, ap}
use Rattle.std.specs.Option.{is_some}
use Rattle.netlist.specs.Miter.{variable_of}
use Rattle.flat_cones.proofs.VariableLemmas.{variable-place}
use Rattle.flat_cones.proofs.clauses.Clauses.add_defining.Goals as goal

pub add_axioms-requires-clause-there : goal.add_axioms-requires-clause-there
add_axioms-requires-clause-there c =
    ap is_some (ap (variable_of c.args.net.now) c.requires.node ∙ variable-place c.args.net.now c.requires.net c.args.variable c.requires.there)
