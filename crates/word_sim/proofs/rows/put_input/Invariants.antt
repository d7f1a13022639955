-- The words that were passed have the input's values.
use Rattle.std.proofs.Common.{◌≡◌, ◌<◌, ◌+◌, ◌*◌, ◌&&◌, ℕ, nat_lt, length}
use Rattle.std.specs.List.{slice_index_or}
use Rattle.word_sim.specs.Patterns.{is_set, truth_of}
use Rattle.word_sim.proofs.rows.put_input.Given as goal

abbrev pub invariant-loop-w : goal.invariant-loop-w
invariant-loop-w l = (length l.row ≡ length l.fn.row) × ((w b : ℕ) → w < l.w → b < 64
    → is_set (slice_index_or l.row w 0) b ≡ (nat_lt (64 * w + b) (length l.pool.patterns) && truth_of l.pool.patterns l.input (64 * w + b)))
