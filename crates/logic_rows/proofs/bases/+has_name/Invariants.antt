use Rattle.std.proofs.Common.{length}
use Rattle.logic_rows.proofs.bases.+has_name.Given as goal

abbrev pub decreases-has_name : goal.decreases-has_name
decreases-has_name l = length l.base.now
