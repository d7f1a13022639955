-- A literal that has a number is the one of its variable.
use Rattle.std.proofs.Common.{◌∙◌, sym}
use Rattle.flat_cones.proofs.GateLemmas.{number-lit, lit_by-number}
use Rattle.flat_cones.proofs.WalkLemmas.{variable-range}
use Rattle.flat_cones.proofs.nodes.dim_of.Goals as goal

pub returns-clause-lit : goal.returns-clause-lit
returns-clause-lit c = lit_by-number c.args.net.now c.args.lit c.unwrap.result (sym c.cnf_number.ensures ∙ c.unwrap.ensures)

pub returns-clause-variable : goal.returns-clause-variable
returns-clause-variable c =
    variable-range c.args.net.now c.args.lit.node c.unwrap.result.var
    (number-lit c.args.net.now c.args.lit c.unwrap.result (sym c.cnf_number.ensures ∙ c.unwrap.ensures)).0
