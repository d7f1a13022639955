use Rattle.std.proofs.Common.{◌∙◌, sym}
use Rattle.lits.proofs.Facts.{list_all-next, list_all-fails}
use Rattle.keep_lemmas.specs.Keeping.{is_current_hint}
use Rattle.keep_lemmas.proofs.renewed.is_current_step.Goals as goal

pub loop-place-preserved : goal.loop-place-preserved
loop-place-preserved c =
    list_all-next (is_current_hint c.args.numbers.now) c.args.step.now.hints c.loop-place.place _ c.at.ensures c.loop-place.invariant
    (sym c.is_current_hint.ensures ∙ c.if-not-is_current_hint.false)

pub returns-then-not-is_current_hint : goal.returns-then-not-is_current_hint
returns-then-not-is_current_hint c =
    sym (list_all-fails (is_current_hint c.args.numbers.now) c.args.step.now.hints c.loop-place.place _ c.at.ensures
    (sym c.is_current_hint.ensures ∙ c.if-not-is_current_hint.true))
