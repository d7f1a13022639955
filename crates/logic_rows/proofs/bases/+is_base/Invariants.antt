use Rattle.std.proofs.Common.{length}
use Rattle.logic_rows.proofs.bases.+is_base.Given as goal

abbrev pub decreases-is_base : goal.decreases-is_base
decreases-is_base l = length l.base.now
