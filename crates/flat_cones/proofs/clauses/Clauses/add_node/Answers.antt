-- A merge's target has a variable, and is another node.
use Rattle.std.proofs.Common.{◌≡◌, ◌∙◌, ap, sym, subst, false}
use Rattle.std.specs.Option.{option_map}
use Rattle.lits.specs.Same.{same_node}
use Rattle.lits.specs.declared.node.Node.{Node}
use Rattle.flat_cones.proofs.ConeLemmas.{merge_at, target-there, target-apart}
use Rattle.flat_cones.proofs.clauses.Clauses.add_node.Goals as goal

pub add_merge-requires-clause-apart : goal.add_merge-requires-clause-apart
add_merge-requires-clause-apart c =
    subst (λ (n : Node). same_node n c.in-Some.target.node ≡ false) c.node_of-node.ensures.node
    (target-apart c.args.net.now c.args.book.now c.requires.legal c.node_of-node.result (merge_at (c.in-Some.place, c.in-Some.target))
    (sym c.merge_of.ensures ∙ ap (option_map merge_at) c.in-Some.is))

pub add_merge-requires-clause-target : goal.add_merge-requires-clause-target
add_merge-requires-clause-target c =
    target-there c.args.net.now c.args.book.now c.requires.legal c.node_of-node.result (merge_at (c.in-Some.place, c.in-Some.target))
    (sym c.merge_of.ensures ∙ ap (option_map merge_at) c.in-Some.is)
