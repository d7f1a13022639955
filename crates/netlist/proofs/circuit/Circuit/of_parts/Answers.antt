use Rattle.netlist.proofs.VariableLemmas.{variables}
use Rattle.netlist.proofs.circuit.Circuit.of_parts.Goals as goal

pub of-requires : goal.of-requires
of-requires c = rw (c.inputs.ensures, c.gates.ensures) (variables _ c.requires)

pub invariant_of-result : goal.invariant_of-result
invariant_of-result c = record {
  circuit = c.requires;
  table = rw (c.inputs.ensures, c.gates.ensures) at c.in_ok-table.ensures;
}
