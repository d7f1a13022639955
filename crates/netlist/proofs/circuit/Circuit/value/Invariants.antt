use Rattle.std.proofs.Common.{take}
use Rattle.netlist.specs.Source.{IsComputed}
use Rattle.netlist.proofs.circuit.Circuit.value.Given as goal

abbrev pub invariant-loop-i : goal.invariant-loop-i
invariant-loop-i l = IsComputed l.self l.inputs l.buf (take l.i l.self.gates)
