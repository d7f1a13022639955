use Rattle.std.proofs.Common.{◌∙◌, sym}
use Rattle.lits.proofs.Facts.{list_all-next, list_all-fails}
use Rattle.netlist_edits.specs.Edited.{touched_by}
use Rattle.keep_lemmas.specs.Kept.{hint_stays}
use Rattle.keep_lemmas.specs.Keeping.{is_numbered}
use Rattle.keep_lemmas.proofs.staying.hints_stay.Goals as goal

pub loop-place-preserved : goal.loop-place-preserved
loop-place-preserved c =
    list_all-next (hint_stays c.args.net.now (touched_by c.args.touched.now) (is_numbered c.args.numbers.now)) c.args.hints.now
    c.loop-place.place _ c.at.ensures c.loop-place.invariant (sym c.hint_stays.ensures ∙ c.if-not-hint_stays.false)

pub returns-then-not-hint_stays : goal.returns-then-not-hint_stays
returns-then-not-hint_stays c =
    sym (list_all-fails (hint_stays c.args.net.now (touched_by c.args.touched.now) (is_numbered c.args.numbers.now)) c.args.hints.now
    c.loop-place.place _ c.at.ensures (sym c.hint_stays.ensures ∙ c.if-not-hint_stays.true))
