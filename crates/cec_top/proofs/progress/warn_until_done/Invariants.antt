-- Lines of progress are warned, and nothing else is done.
use Rattle.std.proofs.Common.{true}
use Rattle.cec_top.specs.Progress.{WarnsProgress}
use Rattle.cec_top.proofs.progress.warn_until_done.Given as goal

abbrev pub invariant-loop : goal.invariant-loop
invariant-loop g l = WarnsProgress true (g.D.Desk.state l.fn.desk) (g.D.Desk.state l.desk)
