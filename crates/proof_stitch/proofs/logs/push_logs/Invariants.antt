use Rattle.std.proofs.Common.{◌≡◌, ◌-◌, length}
use Rattle.std.specs.List.{range_with_len}
use Rattle.netlist.specs.Miter.{miter_of}
use Rattle.proof_stitch.specs.Derivation.{all_lines, is_for_logs, log_lines}
use Rattle.proof_stitch.specs.Progress.{GoesOn}
use Rattle.proof_stitch.specs.Table.{KeepsShape}
use Rattle.proof_stitch.proofs.LogLemmas.{IsAtLog, logs_left}
use Rattle.proof_stitch.proofs.logs.push_logs.Given as goal

abbrev pub invariant-loop-output : goal.invariant-loop-output
invariant-loop-output g l = record {
  shape : KeepsShape l.initial.names l.names;
  started : (g.D.Desk.state l.desk).started ≡ (g.D.Desk.state l.initial.desk).started;
  at : IsAtLog l.net l.book.entries l.first l.initial.proof.last (range_with_len l.output (l.output-end - l.output)) l.next l.names l.proof l.spans.items;
  goes : GoesOn (length (miter_of l.net)) (is_for_logs l.net l.book.entries) (all_lines l.net l.book.entries) (log_lines l.net l.book.entries)
      (logs_left l.net l.book.entries l.next (range_with_len l.output (l.output-end - l.output))) l.first l.next l.initial.names l.names
      l.initial.proof l.proof (g.D.Desk.state l.initial.desk) (g.D.Desk.state l.desk) (g.D.Desk.sizes l.initial.desk) (g.D.Desk.sizes l.desk);
}
