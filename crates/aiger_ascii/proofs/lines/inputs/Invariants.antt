use Rattle.std.proofs.Common.{◌≡◌, ◌-◌, []}
use Rattle.aiger_ascii.specs.Ascii.{input_at, lines_at}
use Rattle.aiger_ascii.proofs.lines.inputs.Given as goal

abbrev pub invariant-loop : goal.invariant-loop
invariant-loop l = record {
  rest : lines_at input_at l.count l.most l.fn.draft l.fn.scan ≡ lines_at input_at (l.count - l.counter) l.most l.draft l.scan;
  first : l.draft.gates ≡ [];
  outputs : l.draft.outputs ≡ l.fn.draft.outputs;
  constraints : l.draft.constraints ≡ l.fn.draft.constraints;
}
