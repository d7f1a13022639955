use Rattle.std.proofs.Common.{arith}
use Rattle.solver_plain.proofs.FormulaLemmas.{variables-next}
use Rattle.solver_plain.proofs.literals.put_variables.Goals as goal

pub loop-lit-preserved : goal.loop-lit-preserved
loop-lit-preserved c seen at =
    variables-next seen c.args.lits.now c.loop-lit.variables c.put.new.set c.loop-lit.lit-index _ c.variable_of.result (omega arith)
    (c.loop-lit.invariant seen at) c.variable_of.ensures c.in_ok-put.ensures
