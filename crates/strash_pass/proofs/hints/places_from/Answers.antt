-- The first word that asks is that of the first clause that asks.
use Rattle.std.proofs.Common.{sym}
use Rattle.strash_pass.proofs.ShapeLemmas.{place-inside, straight-last, straight-next, straight-start}
use Rattle.strash_pass.proofs.hints.places_from.Goals as goal

pub loop-init : goal.loop-init
loop-init c = straight-start c.args.words.now c.args.marks c.args.places.now.items c.requires

pub bounds-words-place : goal.bounds-words-place
bounds-words-place c = place-inside c.loop.marks c.args.words.now c.in-Some.place (sym c.in-Some.ensures)

pub loop-preserved : goal.loop-preserved
loop-preserved c =
    straight-next c.args.words.now c.args.marks c.loop.marks c.loop.places.items _ c.loop.invariant c.in-Some.place c.open-open.result
    (sym c.in-Some.ensures) c.open-open.ensures c.in_ok-push-in-Some.ensures.items c.with-marks.result c.if-open-eq0.false
    c.with-marks.ensures.yes c.with-marks.ensures.no c.with-marks.ensures.small

pub returns-then-open-eq0 : goal.returns-then-open-eq0
returns-then-open-eq0 c = λ t.
    straight-last c.args.words.now c.args.marks c.loop.marks c.loop.places.items _ c.loop.invariant c.in-Some.place c.open-open.result
    (sym c.in-Some.ensures) c.open-open.ensures c.in_ok-push-in-Some.ensures.items c.if-open-eq0.true
