use Rattle.std.proofs.Common.{arith}
use Rattle.unit_prop.proofs.HintScanLemmas.{negation-fresh}
use Rattle.unit_prop.proofs.hint_scan.negations.Goals as goal

pub push-requires : goal.push-requires
push-requires c =
    negation-fresh c.args.clause.now c.loop-lit.set c.loop-lit.lit-index _ c.not.result (omega arith) c.requires c.loop-lit.invariant c.not.ensures
