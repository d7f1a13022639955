use Rattle.solver_watch.proofs.StartLemmas.{starting-next, started}
use Rattle.solver_watch.proofs.formula.Formula.start.Goals as goal

pub returns : goal.returns
returns c = started c.args.base.now c.loop-named.named-index c.loop-named.self c.requires c.loop-named-test.false c.loop-named.invariant

pub add-requires : goal.add-requires
add-requires c = c.loop-named.invariant.last

pub loop-named-preserved : goal.loop-named-preserved
loop-named-preserved c =
    starting-next c.args.base.now c.loop-named.named-index c.named-item.result c.loop-named.self c.add.new.self c.loop-named-test.true c.named-item.is
    c.loop-named.invariant c.in_ok-add.ensures.trail c.in_ok-add.ensures.names c.add.ensures.log
