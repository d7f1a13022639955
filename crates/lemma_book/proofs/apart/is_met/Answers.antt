-- There is a literal for each constraint, over a node with a position.
use Rattle.std.proofs.Common.{◌∙◌, sym}
use Rattle.lemma_book.proofs.AdmittedInputs.{bound-placed, bound-value}
use Rattle.lemma_book.proofs.apart.is_met.Goals as goal

pub node_value-requires-clause-placed : goal.node_value-requires-clause-placed
node_value-requires-clause-placed c =
    bound-placed c.args.net.now c.is_net.ensures c.args.side c.args.k c.in-Some.lit (sym c.constraint.ensures ∙ c.in-Some.is)

pub returns-clause-value : goal.returns-clause-value
returns-clause-value c =
    bound-value c.args.net.now c.is_net.ensures c.args.input.now c.args.side c.args.k c.in-Some.lit c.in_ok-node_value-in-Some.field-0
    (sym c.constraint.ensures ∙ c.in-Some.is) c.in_ok-node_value-in-Some.ensures.value
