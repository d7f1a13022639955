-- The unit of the next constraint is put last, until there is no more.
use Rattle.std.proofs.Common.{◌∙◌, ◌∷◌, ◌++◌, [], List, ap, sym, append-nil, arith}
use Rattle.lits.specs.declared.literal.Lit.{Lit}
use Rattle.lits.specs.declared.step.Ref.TheVariants.{Bound}
use Rattle.lemma_book.proofs.BoundLists.{bound-below, bound-few, units-next, units-end}
use Rattle.lemma_book.proofs.output_cone.add_units.Goals as goal

pub loop-lit-init : goal.loop-lit-init
loop-lit-init c = sym (append-nil c.args.cone.now.items)

pub overflow_add-k : goal.overflow_add-k
overflow_add-k c =
    omega (arith, bound-few c.args.net.now c.args.side c.loop-lit.k c.requires c.in-Some.lit (sym c.constraint.ensures ∙ c.in-Some.is))

pub loop-lit-smaller : goal.loop-lit-smaller
loop-lit-smaller c =
    omega (arith, bound-below c.args.net.now c.args.side c.loop-lit.k c.in-Some.lit (sym c.constraint.ensures ∙ c.in-Some.is))

pub loop-lit-preserved : goal.loop-lit-preserved
loop-lit-preserved c =
    units-next c.args.net.now c.args.side c.loop-lit.k c.in-Some.lit c.args.cone.now.items c.loop-lit.cone.items c.push.new.self.items
    (sym c.constraint.ensures ∙ c.in-Some.is) c.loop-lit.invariant
    (c.in_ok-push.ensures.items
    ∙ ap (λ (l : List Lit). c.loop-lit.cone.items ++ record { clause = l; by = Bound c.args.side c.loop-lit.k } ∷ []) c.in_ok-clause.ensures)

pub returns : goal.returns
returns c =
    units-end c.args.net.now c.args.side c.loop-lit.k c.args.cone.now.items c.loop-lit.cone.items (sym c.constraint.ensures ∙ c.in_default.is)
    c.loop-lit.invariant
