use Rattle.std.proofs.Common.{◌≡◌, ◌+◌, ◌-◌, [], length}
use Rattle.aiger_binary.specs.Binary.{gates_at, AreStacked}
use Rattle.aiger_binary.proofs.gates.gates.Given as goal

abbrev pub invariant-loop-number : goal.invariant-loop-number
invariant-loop-number l = record {
  rest : gates_at l.count l.inputs [] l.fn.scan ≡ gates_at (l.count - l.number) l.inputs l.gates.items l.scan;
  stacked : AreStacked (l.inputs + 1) l.gates.items;
  count : length l.gates.items ≡ l.number;
}
