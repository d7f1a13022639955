use Rattle.std.proofs.Common.{sym, ◌∙◌}
use Rattle.lits.proofs.Facts.{lit_laws}
use Rattle.solver_plain.proofs.EffectLemmas.{negated-of_none, unit-of_first, quiet-settled, quiet-unforced}
use Rattle.solver_plain.proofs.effect.effect_of.Goals as goal
use Rattle.solver_plain.proofs.effect.effect_of.Goals.{else-not-has-via-then-not-has+else-is_forced, else-not-has-via-else-not-has}

pub returns-in_default : goal.returns-in_default
returns-in_default c = negated-of_none lit_laws c.args.set.now c.args.clause.now (sym c.in_default.ensures)

pub returns-then-is_forced : goal.returns-then-is_forced
returns-then-is_forced c = unit-of_first lit_laws c.args.set.now c.args.clause.now c.in-Some.lit (sym c.in-Some.ensures) (sym c.has.ensures ∙ c.if-not-has.true)
    (sym c.is_forced.ensures ∙ c.if-is_forced.true)

pub returns : goal.returns
returns c =
    elim c.else-not-has.branch [
      | else-not-has-via-then-not-has+else-is_forced w ↦ quiet-unforced lit_laws c.args.set.now c.args.clause.now c.in-Some.lit (sym c.in-Some.ensures) (sym w.is_forced.ensures ∙ w.if-is_forced.false)
      | else-not-has-via-else-not-has w ↦ quiet-settled lit_laws c.args.set.now c.args.clause.now c.in-Some.lit (sym c.in-Some.ensures) (sym c.has.ensures ∙ w.if-not-has.false)
    ]
