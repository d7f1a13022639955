-- The rows stay those of the first patterns.
use Rattle.std.proofs.Common.{◌≡◌, take}
use Rattle.word_sim.specs.Rows.{AreSignatures}
use Rattle.lane_rows.proofs.grown.grow.Given as goal

abbrev pub invariant-loop-k : goal.invariant-loop-k
invariant-loop-k g l =
    (l.pool.inputs ≡ 2) × AreSignatures l.net (take l.sigs.patterns l.pool.patterns) l.sigs
