use Rattle.std.proofs.Common.{◌≡◌, ◌++◌, take}
use Rattle.std.specs.List.{flat_map}
use Rattle.circuit_text.specs.BinaryText.{gate_deltas}
use Rattle.circuit_text.proofs.deltas.push_deltas.Given as goal

abbrev pub invariant-loop-gate : goal.invariant-loop-gate
invariant-loop-gate l = l.text.items ≡ l.fn.text.items ++ flat_map gate_deltas (take l.gate-index l.circuit.gates)
