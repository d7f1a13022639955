-- One name more.
use Rattle.std.proofs.Common.{length, arith}
use Rattle.strash_pass.specs.Shapes.{name_at}
use Rattle.strash_pass.proofs.ShapeLemmas.{all-at, map-all, map-next}
use Rattle.strash_pass.proofs.hints.names_at.Goals as goal

pub bounds-coded-place : goal.bounds-coded-place
bounds-coded-place c = all-at (length c.args.coded.now) c.args.places.now c.loop-place.place-index c.requires (omega (arith, c.loop-place-test.true))

pub loop-place-preserved : goal.loop-place-preserved
loop-place-preserved c =
    map-next (name_at c.args.coded.now) c.args.places.now c.loop-place.place-index 0 c.loop-place.names.items _
    (omega (arith, c.loop-place-test.true)) c.loop-place.invariant c.in_ok-push.ensures.items

pub returns : goal.returns
returns c =
    map-all (name_at c.args.coded.now) c.args.places.now c.loop-place.place-index c.loop-place.names.items
    (omega (arith, c.loop-place-test.false)) c.loop-place.invariant
