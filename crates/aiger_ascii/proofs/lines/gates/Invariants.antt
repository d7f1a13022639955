use Rattle.std.proofs.Common.{◌≡◌, ◌-◌}
use Rattle.aiger_ascii.specs.Ascii.{gate_at, lines_at}
use Rattle.aiger_ascii.proofs.lines.gates.Given as goal

abbrev pub invariant-loop : goal.invariant-loop
invariant-loop l = record {
  rest : lines_at gate_at l.count l.most l.fn.draft l.fn.scan ≡ lines_at gate_at (l.count - l.counter) l.most l.draft l.scan;
}
