use Rattle.std.proofs.Common.{length}
use Rattle.logic_rows.proofs.bases.+mentions.Given as goal

abbrev pub decreases-mentions : goal.decreases-mentions
decreases-mentions l = length l.base.now
