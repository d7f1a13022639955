-- Each step's literals are a clause, which the base shows.
use Rattle.std.proofs.Common.{[], ◌∷◌, sym, subst}
use Rattle.lits.specs.Clause.{IsClause}
use Rattle.lits.specs.Same.{same_lit, opposite}
use Rattle.lits.specs.declared.literal.Lit.{Lit}
use Rattle.netlist.specs.Miter.{positive}
use Rattle.unit_prop.specs.Log.{base_clauses}
use Rattle.strash_pass.specs.Pass.{ShowsOver}
use Rattle.strash_pass.proofs.MergeLemmas.{below-clause, above-clause, steps-scanned}
use Rattle.strash_pass.proofs.merge.both_steps.Goals as goal

pub scanned_step-requires-clause-clause : goal.scanned_step-requires-clause-clause
scanned_step-requires-clause-clause c =
    subst (λ (l : Lit). IsClause same_lit opposite (l ∷ c.args.target ∷ [])) (sym c.not.ensures) (below-clause c.args.node c.args.target c.requires.apart)

pub scanned_step-requires-clause-shown : goal.scanned_step-requires-clause-shown
scanned_step-requires-clause-shown c = subst (λ (l : Lit). ShowsOver (base_clauses c.args.base.now) l c.args.target) (sym c.not.ensures) c.requires.below

pub scanned_step-requires-2-clause-clause : goal.scanned_step-requires-2-clause-clause
scanned_step-requires-2-clause-clause c =
    subst (λ (l : Lit). IsClause same_lit opposite (positive c.args.node ∷ l ∷ [])) (sym c.not-2.ensures) (above-clause c.args.node c.args.target c.requires.apart)

pub scanned_step-requires-2-clause-shown : goal.scanned_step-requires-2-clause-shown
scanned_step-requires-2-clause-shown c =
    subst (λ (l : Lit). ShowsOver (base_clauses c.args.base.now) (positive c.args.node) l) (sym c.not-2.ensures) c.requires.above

pub returns : goal.returns
returns c =
    steps-scanned c.args.node c.args.target c.requires.apart c.args.base.now c.not.result c.not-2.result c.in_ok-scanned_step.field-0 c.in_ok-scanned_step-2.field-0 _ _ _
    c.not.ensures c.not-2.ensures c.in_ok-steps.ensures.items c.in_ok-push.ensures.items c.in_ok-push-2.ensures.items
    c.in_ok-scanned_step.ensures.step.0 c.in_ok-scanned_step-2.ensures.step.0 c.in_ok-scanned_step.ensures.first c.in_ok-scanned_step-2.ensures.first
