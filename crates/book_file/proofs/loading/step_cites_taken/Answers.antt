use Rattle.std.proofs.Common.{◌∙◌, sym}
use Rattle.lits.proofs.Facts.{list_all-next, list_all-fails}
use Rattle.book_file.specs.Loaded.{hint_among, is_taken}
use Rattle.book_file.proofs.loading.step_cites_taken.Goals as goal

pub loop-place-preserved : goal.loop-place-preserved
loop-place-preserved c =
    list_all-next (hint_among (is_taken c.args.numbers.now)) c.args.step.now.hints c.loop-place.place _ c.at.ensures
    c.loop-place.invariant (sym c.hint_is_taken.ensures ∙ c.if-not-hint_is_taken.false)

pub returns-then-not-hint_is_taken : goal.returns-then-not-hint_is_taken
returns-then-not-hint_is_taken c =
    sym (list_all-fails (hint_among (is_taken c.args.numbers.now)) c.args.step.now.hints c.loop-place.place _ c.at.ensures
    (sym c.hint_is_taken.ensures ∙ c.if-not-hint_is_taken.true))
