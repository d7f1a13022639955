use Rattle.std.proofs.Common.{length}
use Rattle.logic_rows.proofs.bases.+is_over.Given as goal

abbrev pub decreases-is_over : goal.decreases-is_over
decreases-is_over l = length l.lits.now
