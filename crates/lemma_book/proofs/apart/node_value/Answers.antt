-- The node at a node's position is that node.
use Rattle.std.proofs.Common.{◌≡◌, ◌∙◌, IfOk, sym, subst}
use Rattle.lits.specs.declared.node.Node.{Node}
use Rattle.lits.specs.Same.{same_node}
use Rattle.netlist.specs.Net.{nodes_of, value_of}
use Rattle.netlist.proofs.Facts.{node-at, at-place}
use Rattle.lemma_book.proofs.apart.node_value.Goals as goal

pub value_at-requires-clause-there : goal.value_at-requires-clause-there
value_at-requires-clause-there c =
    (at-place (λ n. same_node n c.args.node) (nodes_of c.args.net.now) c.in-Some.position (sym c.position.ensures ∙ c.in-Some.is)).3

pub returns-clause-value : goal.returns-clause-value
returns-clause-value c =
    subst (λ (n : Node). IfOk c.value_at.result (λ b. b ≡ value_of c.args.net.now c.args.input.now n))
    (node-at c.args.net.now c.args.node c.in-Some.position (sym c.position.ensures ∙ c.in-Some.is)) c.value_at.ensures.value
