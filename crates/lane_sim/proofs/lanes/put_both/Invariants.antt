-- The words that were passed are written: in lanes as many as fill them, and then one by one.
use Rattle.std.proofs.Common.{◌*◌}
use Rattle.lane_sim.proofs.LaneLemmas.{AreWritten, both-word}
use Rattle.lane_sim.proofs.lanes.put_both.Given as goal

abbrev pub invariant-loop-k : goal.invariant-loop-k
invariant-loop-k l = AreWritten (both-word l.left l.left_mask l.right l.right_mask) l.fn.words (4 * l.k) l.words

abbrev pub invariant-loop-w : goal.invariant-loop-w
invariant-loop-w l = AreWritten (both-word l.left l.left_mask l.right l.right_mask) l.fn.words l.w l.words
