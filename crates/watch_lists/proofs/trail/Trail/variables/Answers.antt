use Rattle.std.proofs.Common.{arith}
use Rattle.watch_lists.proofs.trail.Trail.variables.Goals as goal

pub returns-clause-small : goal.returns-clause-small
returns-clause-small c =
    let size = c.self.invariant.size in
    let small = c.self.invariant.engine.small in
    omega (arith, c.len.ensures)
