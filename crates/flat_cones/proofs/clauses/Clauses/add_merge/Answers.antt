-- One clause, and then the other.
use Rattle.std.proofs.Common.{◌∙◌, ap, refl, subst, sym}
use Rattle.lits.specs.Dimacs.{DimacsLiteral}
use Rattle.lits.specs.Same.{opposite}
use Rattle.lits.specs.declared.literal.Lit.{Lit}
use Rattle.netlist.specs.Miter.{positive, negative}
use Rattle.flat_cones.specs.Walk.{lit_by, node_by, IsVariable}
use Rattle.flat_cones.proofs.GateLemmas.{clause-by, nodes-differ}
use Rattle.flat_cones.proofs.NumberLemmas.{adds-more, merge-adds}
use Rattle.flat_cones.proofs.clauses.Clauses.add_merge.Goals as goal

pub add_two-requires-clause-first : goal.add_two-requires-clause-first
add_two-requires-clause-first c = rw (c.not.ensures, c.dim-merged.ensures) c.requires.there

pub add_two-requires-clause-second : goal.add_two-requires-clause-second
add_two-requires-clause-second c = c.dim_of-target.ensures.variable

pub add_two-requires-clause-clause : goal.add_two-requires-clause-clause
add_two-requires-clause-clause c =
    clause-by c.args.net.now c.not.result c.dim_of-target.result (negative (node_by c.args.net.now c.args.variable)) c.args.target
    (rw (c.not.ensures, c.dim-merged.ensures) refl) c.dim_of-target.ensures.lit
    (nodes-differ (node_by c.args.net.now c.args.variable) c.args.target.node c.requires.apart)

pub add_two-requires-2-clause-first : goal.add_two-requires-2-clause-first
add_two-requires-2-clause-first c = rw c.dim-merged.ensures c.requires.there

pub add_two-requires-2-clause-second : goal.add_two-requires-2-clause-second
add_two-requires-2-clause-second c = rw c.not-2.ensures c.dim_of-target.ensures.variable

pub add_two-requires-2-clause-clause : goal.add_two-requires-2-clause-clause
add_two-requires-2-clause-clause c =
    clause-by c.args.net.now c.dim-merged.result c.not-2.result (positive (node_by c.args.net.now c.args.variable)) (opposite c.args.target)
    (rw c.dim-merged.ensures refl) (ap (lit_by c.args.net.now) c.not-2.ensures ∙ ap opposite c.dim_of-target.ensures.lit)
    (nodes-differ (node_by c.args.net.now c.args.variable) c.args.target.node c.requires.apart)

pub add_two-requires-2-clause-numbered : goal.add_two-requires-2-clause-numbered
add_two-requires-2-clause-numbered c = c.in_ok-add_two.ensures.numbered

pub returns : goal.returns
returns c =
    let net = c.args.net.now in
    merge-adds net c.args.self.now.base c.add_two-2.new.self.base c.add_two-2.new.spots c.args.place (node_by net c.args.variable) c.args.target
    (lit_by net c.not.result) (lit_by net c.dim_of-target.result) (lit_by net c.dim-merged.result) (lit_by net c.not-2.result)
    (rw (c.not.ensures, c.dim-merged.ensures) refl) c.dim_of-target.ensures.lit (rw c.dim-merged.ensures refl)
    (ap (lit_by net) c.not-2.ensures ∙ ap opposite c.dim_of-target.ensures.lit)
    (adds-more net c.args.self.now.base c.add_two.new.self.base c.add_two-2.new.self.base _ _ c.add_two.new.spots c.add_two-2.new.spots
    c.in_ok-add_two.ensures c.in_ok-add_two-2.ensures)
