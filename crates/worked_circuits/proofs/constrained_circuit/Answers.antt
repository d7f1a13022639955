use Rattle.std.proofs.Common.{arith}
use Rattle.netlist.proofs.Facts.{few_gates_of}
use Rattle.worked_circuits.specs.Worked.{constrained}
use Rattle.worked_circuits.proofs.constrained_circuit.Goals as goal

pub overflow_cast-inputs : goal.overflow_cast-inputs
overflow_cast-inputs c =
    omega (
      arith,
      few_gates_of (constrained c.args.inputs.now c.args.gates.now c.args.outputs.now c.args.constraints.now) c.requires,
    )
