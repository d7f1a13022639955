use Rattle.std.proofs.Common.{◌≡◌, ◌<◌, ◌≤◌, ℕ, map, [], length, slice_index_or}
use Rattle.watch_lists.proofs.lists.clear_first.Given as goal

abbrev pub invariant-loop-at : goal.invariant-loop-at
invariant-loop-at l = record {
  size : length l.lists.items ≡ length l.initial.lists.items;
  below : (k : ℕ) → k < l.at → slice_index_or (map (λ v. v.items) l.lists.items) k [] ≡ [];
  rest : (k : ℕ) → l.at ≤ k → slice_index_or (map (λ v. v.items) l.lists.items) k [] ≡ slice_index_or (map (λ v. v.items) l.initial.lists.items) k [];
}
