use Rattle.solver_plain.proofs.SettleLemmas.{way-next}
use Rattle.solver_plain.proofs.solver.settle.Goals as goal

pub loop-left-preserved : goal.loop-left-preserved
loop-left-preserved c =
    way-next c.args.formula.now c.args.target.now c.args.left.now c.loop-left.formula c.learn.new.self c.loop-left.left c.in-Learned.step
    c.loop-left-test.true c.loop-left.invariant (rw c.in-Learned.is at c.in_ok-hints.ensures) c.in_ok-learn-in-Learned.ensures.ok
