use Rattle.std.proofs.Common.{◌≡◌, ◌+◌, ◌-◌, length}
use Rattle.aiger_ascii.specs.Ascii.{constraint_at, lines_at}
use Rattle.aiger_ascii.proofs.lines.constraints.Given as goal

abbrev pub invariant-loop : goal.invariant-loop
invariant-loop l = record {
  rest : lines_at constraint_at l.count l.most l.fn.draft l.fn.scan ≡ lines_at constraint_at (l.count - l.counter) l.most l.draft l.scan;
  count : length l.draft.constraints ≡ length l.fn.draft.constraints + l.counter;
}
