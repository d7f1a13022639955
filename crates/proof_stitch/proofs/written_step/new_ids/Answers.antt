use Rattle.std.proofs.Common.{◌∙◌, map, sym, ap}
use Rattle.std.proofs.lemmas.List.{take_all, map_more}
use Rattle.proof_stitch.specs.Table.{named_in}
use Rattle.proof_stitch.proofs.written_step.new_ids.Goals as goal

pub loop-id-preserved : goal.loop-id-preserved
loop-id-preserved c =
    rw (c.in_ok-push.ensures.items, c.loop-id.invariant, c.new_id.ensures)
    (sym (map_more (named_in c.args.names.now) c.args.ids.now c.loop-id.id-index _ c.loop-id-test.true))

pub returns : goal.returns
returns c =
    c.loop-id.invariant
    ∙ ap (map (named_in c.args.names.now)) (take_all c.loop-id.id-index c.args.ids.now c.loop-id-test.false)
