-- The unit of the next constraint is put last, until there is no more.
use Rattle.std.proofs.Common.{◌∙◌, List, sym, subst, arith}
use Rattle.lits.specs.declared.literal.Lit.{Lit}
use Rattle.lits.specs.declared.step.Named.{Named}
use Rattle.lits.specs.declared.step.Ref.TheVariants.{Bound}
use Rattle.lemma_book.specs.Cone.{named_from}
use Rattle.flat_cones.specs.Numbered.{Adds}
use Rattle.flat_cones.proofs.BoundLemmas.{bound-below, bound-few, bound-variable, unit-next, unit-end}
use Rattle.flat_cones.proofs.NumberLemmas.{adds-none, adds-more}
use Rattle.flat_cones.proofs.clauses.Clauses.add_units.Goals as goal

pub loop-lit-init : goal.loop-lit-init
loop-lit-init c = adds-none c.args.net.now c.args.spots.now c.args.self.now.base c.requires.numbered

pub add-requires-clause-numbered : goal.add-requires-clause-numbered
add-requires-clause-numbered c = c.loop-lit.invariant.numbered

pub add-requires-clause-there : goal.add-requires-clause-there
add-requires-clause-there c =
    (bound-variable c.args.net.now c.args.side c.loop-lit.k c.requires.net c.in-Some.lit (sym c.constraint.ensures ∙ c.in-Some.is), tt)

pub overflow_add-k : goal.overflow_add-k
overflow_add-k c =
    omega (arith, bound-few c.args.net.now c.args.side c.loop-lit.k c.requires.net c.in-Some.lit (sym c.constraint.ensures ∙ c.in-Some.is))

pub loop-lit-smaller : goal.loop-lit-smaller
loop-lit-smaller c =
    omega (arith, bound-below c.args.net.now c.args.side c.loop-lit.k c.in-Some.lit (sym c.constraint.ensures ∙ c.in-Some.is))

pub loop-lit-preserved : goal.loop-lit-preserved
loop-lit-preserved c =
    subst (λ (cs : List Named). Adds c.args.net.now c.args.self.now.base cs c.add.new.spots c.add.new.self.base)
    (unit-next c.args.net.now c.args.side c.loop-lit.k c.in-Some.lit (sym c.constraint.ensures ∙ c.in-Some.is))
    (adds-more c.args.net.now c.args.self.now.base c.loop-lit.self.base c.add.new.self.base _ _ c.loop-lit.spots c.add.new.spots c.loop-lit.invariant c.in_ok-add.ensures)

pub returns : goal.returns
returns c =
    subst (λ (cs : List (List Lit)). Adds c.args.net.now c.args.self.now.base (named_from (Bound c.args.side) 0 cs) c.loop-lit.spots c.loop-lit.self.base)
    (unit-end c.args.net.now c.args.side c.loop-lit.k (sym c.constraint.ensures ∙ c.in_default.is)) c.loop-lit.invariant
