use Rattle.std.proofs.Common.{◌≡◌, ◌++◌, take}
use Rattle.std.specs.List.{flat_map}
use Rattle.circuit_text.specs.AsciiText.{gate_line}
use Rattle.circuit_text.proofs.lines.push_gates.Given as goal

abbrev pub invariant-loop-gate : goal.invariant-loop-gate
invariant-loop-gate l = l.text.items ≡ l.fn.text.items ++ flat_map gate_line (take l.gate-index l.gates)
