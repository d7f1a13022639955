-- The next constraint is put last, until there is no more.
use Rattle.std.proofs.Common.{◌∙◌, sym, append-nil, arith}
use Rattle.lemma_book.proofs.BoundLists.{bound-below, bound-few, bounds-next, bounds-end}
use Rattle.lemma_book.proofs.output_cone.add_bounds.Goals as goal

pub loop-lit-init : goal.loop-lit-init
loop-lit-init c = sym (append-nil c.args.lits.now.items)

pub overflow_add-k : goal.overflow_add-k
overflow_add-k c =
    omega (arith, bound-few c.args.net.now c.args.side c.loop-lit.k c.requires c.in-Some.lit (sym c.constraint.ensures ∙ c.in-Some.is))

pub loop-lit-smaller : goal.loop-lit-smaller
loop-lit-smaller c =
    omega (arith, bound-below c.args.net.now c.args.side c.loop-lit.k c.in-Some.lit (sym c.constraint.ensures ∙ c.in-Some.is))

pub loop-lit-preserved : goal.loop-lit-preserved
loop-lit-preserved c =
    bounds-next c.args.net.now c.args.side c.loop-lit.k c.in-Some.lit c.args.lits.now.items c.loop-lit.lits.items c.push.new.self.items
    (sym c.constraint.ensures ∙ c.in-Some.is) c.loop-lit.invariant c.in_ok-push.ensures.items

pub returns : goal.returns
returns c =
    bounds-end c.args.net.now c.args.side c.loop-lit.k c.args.lits.now.items c.loop-lit.lits.items (sym c.constraint.ensures ∙ c.in_default.is)
    c.loop-lit.invariant
