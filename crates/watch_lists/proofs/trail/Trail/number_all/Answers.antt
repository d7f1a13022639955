use Rattle.std.proofs.Common.{◌≡◌, false, get_or, subst, sym}
use Rattle.lits.specs.Clause.{has}
use Rattle.lits.specs.Same.{same_node}
use Rattle.lits.specs.declared.node.Node.TheVariants.{Const}
use Rattle.watch_lists.specs.Trail.{TrailState}
use Rattle.watch_lists.proofs.StartLemmas.{fresh-at}
use Rattle.watch_lists.proofs.trail.Trail.number_all.Goals as goal

pub number_node-requires : goal.number_node-requires
number_node-requires c =
    subst (λ (t : TrailState). has same_node t.nodes (get_or c.args.nodes.now c.loop-node.node-index Const) ≡ false) (sym c.loop-node.invariant)
    (fresh-at c.args.nodes.now c.loop-node.node-index c.requires.once c.loop-node-test.true)
