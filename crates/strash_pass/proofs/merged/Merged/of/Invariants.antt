-- The merges of the nodes so far.
use Rattle.std.proofs.Common.{◌≡◌, length}
use Rattle.strash_pass.specs.Merged.{AreMergesOf}
use Rattle.strash_pass.proofs.merged.Merged.of.Given as goal

abbrev pub invariant-loop-position : goal.invariant-loop-position
invariant-loop-position l = record {
  count : length l.known.items ≡ l.position;
  merges : AreMergesOf l.net l.book.entries l.known.items;
}
