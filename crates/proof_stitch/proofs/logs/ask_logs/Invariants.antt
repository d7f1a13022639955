use Rattle.std.proofs.Common.{◌≡◌, ◌+◌, ◌-◌, map}
use Rattle.std.specs.List.{range_with_len}
use Rattle.lemma_book.specs.Entry.{outputs_of}
use Rattle.proof_stitch.specs.Derivation.{spent_log}
use Rattle.proof_stitch.specs.Table.{KeepsShape}
use Rattle.proof_stitch.proofs.BookLemmas.{total}
use Rattle.proof_stitch.proofs.LogLemmas.{AsksRest}
use Rattle.proof_stitch.proofs.logs.ask_logs.Given as goal

-- the logs of the outputs before are marked
abbrev pub invariant-loop-output : goal.invariant-loop-output
invariant-loop-output l = record {
  next_is : l.next + total (map (spent_log l.book.entries) (range_with_len l.output (l.output-end - l.output)))
      ≡ l.first + total (map (spent_log l.book.entries) (outputs_of l.net));
  shape : KeepsShape l.initial.marks l.marks;
  marked : AsksRest l.net l.book.entries l.initial.marks (range_with_len l.output (l.output-end - l.output)) l.next l.marks;
}
