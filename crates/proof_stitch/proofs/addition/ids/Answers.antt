use Rattle.std.proofs.Common.{◌∙◌, map, sym, ap, arith}
use Rattle.std.proofs.lemmas.List.{take_all}
use Rattle.lits.proofs.Facts.{map_next}
use Rattle.proof_stitch.specs.Ids.{HasId}
use Rattle.proof_stitch.specs.Steps.{id_of}
use Rattle.proof_stitch.proofs.ReachLemmas.{hint-has}
use Rattle.proof_stitch.proofs.addition.ids.Goals as goal

pub id_of-requires : goal.id_of-requires
id_of-requires c = hint-has (HasId c.args.net.now c.args.shown.now c.args.first) c.args.hints.now c.loop-place.place c.at.result c.at.ensures c.requires

pub loop-place-preserved : goal.loop-place-preserved
loop-place-preserved c =
    rw (c.in_ok-push.ensures.items, c.loop-place.invariant, c.id_of.ensures)
    (sym (map_next (id_of c.args.net.now c.args.shown.now c.args.first) c.args.hints.now c.loop-place.place _ c.at.ensures))

pub returns : goal.returns
returns c =
    c.loop-place.invariant
    ∙ ap (map (id_of c.args.net.now c.args.shown.now c.args.first))
    (take_all c.loop-place.place c.args.hints.now (omega (arith, c.loop-place-test.false, c.len-place-end.ensures)))
