use Rattle.std.proofs.Common.{◌≡◌, ℕ, ◌<◌, false, filter}
use Rattle.std.specs.List.{range_with_len}
use Rattle.lemma_book.specs.Entry.{has_apart, has_spent}
use Rattle.check_session.proofs.verdict.Verdict.of.Given as goal

abbrev pub invariant-loop-output : goal.invariant-loop-output
invariant-loop-output l = record {
  open_is : l.open.items ≡ filter (has_spent l.book.entries) (range_with_len 0 l.output);
  none : (k : ℕ) → k < l.output → has_apart l.book.entries k ≡ false;
}
