-- A circuit's names may be others.
use Rattle.std.proofs.Common.{length}
use Rattle.symbol_names.specs.declared.names.Names.{Names}
use Rattle.symbol_names.specs.Names.{AreNames}
use Rattle.netlist.specs.Circuit.{Aig, IsCircuit}
use Rattle.netlist.specs.Source.{IsIndexed}
use Rattle.netlist.specs.VariableTable.{Places}

pub IsCircuit-named : (c : Aig) (names : Names) → IsCircuit c → AreNames (length c.inputs) (length c.outputs) names → IsCircuit (record c { names = names })
IsCircuit-named c names is fit = record {
  inputs = is.inputs;
  gates = is.gates;
  outputs = is.outputs;
  range = is.range;
  count = is.count;
  constraints = is.constraints;
  constraint_count = is.constraint_count;
  names = fit;
}

pub IsIndexed-named : (c : Aig) (t : Places) (names : Names) → IsIndexed c t → AreNames (length c.inputs) (length c.outputs) names → IsIndexed (record c { names = names }) t
IsIndexed-named c t names is fit = record { circuit = IsCircuit-named c names is.circuit fit; table = is.table }
