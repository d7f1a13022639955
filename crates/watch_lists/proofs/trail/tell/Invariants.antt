use Rattle.std.proofs.Common.{◌≡◌, ◌<◌, ◌≤◌, ℕ, take, length, slice_index_or, vec_capacity, None}
use Rattle.std.specs.Prelude.{slice_index}
use Rattle.flat_base.specs.Codes.{lit_at}
use Rattle.watch_lists.specs.Trail.{put_at}
use Rattle.watch_lists.proofs.trail.tell.Given as goal

abbrev pub invariant-loop-place : goal.invariant-loop-place
invariant-loop-place l = record {
  size : length l.puts.items ≡ l.place;
  most : length l.initial.puts.items ≤ l.place;
  kept : take (length l.initial.puts.items) l.puts.items ≡ l.initial.puts.items;
  told : (k : ℕ) → length l.initial.puts.items ≤ k → k < l.place → put_at l.puts.items k
      ≡ record { lit = lit_at l.numbers (slice_index l.engine.trail.items k); level = length l.engine.levels.items; by = slice_index_or l.engine.reasons.items k None };
  room : vec_capacity l.puts ≡ vec_capacity l.initial.puts;
}
