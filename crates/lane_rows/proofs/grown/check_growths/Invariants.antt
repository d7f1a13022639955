-- The rows are those of all patterns.
use Rattle.std.proofs.Common.{◌≡◌, length}
use Rattle.word_sim.specs.Rows.{AreSignatures}
use Rattle.lane_rows.proofs.grown.check_growths.Given as goal

abbrev pub invariant-loop-patterns : goal.invariant-loop-patterns
invariant-loop-patterns g l =
    (l.pool.inputs ≡ 2) × (length l.net.a.inputs ≡ 2) × AreSignatures l.net l.pool.patterns l.sigs
