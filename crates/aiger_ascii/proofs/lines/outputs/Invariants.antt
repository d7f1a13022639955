use Rattle.std.proofs.Common.{◌≡◌, ◌+◌, ◌-◌, length}
use Rattle.aiger_ascii.specs.Ascii.{output_at, lines_at}
use Rattle.aiger_ascii.proofs.lines.outputs.Given as goal

abbrev pub invariant-loop : goal.invariant-loop
invariant-loop l = record {
  rest : lines_at output_at l.count l.most l.fn.draft l.fn.scan ≡ lines_at output_at (l.count - l.counter) l.most l.draft l.scan;
  count : length l.draft.outputs ≡ length l.fn.draft.outputs + l.counter;
  constraints : l.draft.constraints ≡ l.fn.draft.constraints;
}
