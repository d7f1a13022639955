use Rattle.std.proofs.Common.{arith}
use Rattle.watch_lists.proofs.levels.unmark.Goals as goal
use Rattle.watch_lists.proofs.Facts.{has-at}

pub index_mut-requires : goal.index_mut-requires
index_mut-requires c =
    let h = c.requires _ (has-at c.args.lits.now c.loop-lit.lit-index (omega arith)) in
    omega (arith, h, c.loop-lit.invariant.0, c.loop-lit.truth.ok.0)
