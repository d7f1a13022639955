use Rattle.std.proofs.Common.{◌∙◌, map, sym, ap}
use Rattle.std.proofs.lemmas.List.{take_all, map_more}
use Rattle.netlist.specs.Miter.{numbered}
use Rattle.proof_stitch.proofs.addition.numbers.Goals as goal

pub loop-lit-preserved : goal.loop-lit-preserved
loop-lit-preserved c =
    rw (c.in_ok-push.ensures.items, c.loop-lit.invariant, c.number.ensures)
    (sym (map_more (numbered c.args.net.now) c.args.lits.now c.loop-lit.lit-index _ c.loop-lit-test.true))

pub returns : goal.returns
returns c =
    c.loop-lit.invariant ∙ ap (map (numbered c.args.net.now)) (take_all c.loop-lit.lit-index c.args.lits.now c.loop-lit-test.false)
