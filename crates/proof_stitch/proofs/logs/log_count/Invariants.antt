use Rattle.std.proofs.Common.{◌≡◌, ◌+◌, ◌-◌, map}
use Rattle.std.specs.List.{range_with_len}
use Rattle.lemma_book.specs.Entry.{outputs_of}
use Rattle.proof_stitch.specs.Derivation.{spent_log}
use Rattle.proof_stitch.proofs.BookLemmas.{total}
use Rattle.proof_stitch.proofs.logs.log_count.Given as goal

abbrev pub invariant-loop-output : goal.invariant-loop-output
invariant-loop-output l =
    l.count + total (map (spent_log l.book.entries) (range_with_len l.output (l.output-end - l.output)))
    ≡ total (map (spent_log l.book.entries) (outputs_of l.net))
