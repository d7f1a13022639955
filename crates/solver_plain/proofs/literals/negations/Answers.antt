use Rattle.std.proofs.Common.{arith}
use Rattle.solver_plain.proofs.ScanLemmas.{negations-next}
use Rattle.solver_plain.proofs.literals.negations.Goals as goal

pub loop-lit-preserved : goal.loop-lit-preserved
loop-lit-preserved c =
    negations-next c.args.lits.now c.loop-lit.set c.put.new.set c.loop-lit.lit-index _ c.not.result (omega arith)
    c.loop-lit.invariant c.not.ensures c.in_ok-put.ensures
