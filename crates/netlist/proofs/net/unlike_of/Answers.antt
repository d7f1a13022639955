use Rattle.std.proofs.Common.{length, ap, arith}
use Rattle.netlist.proofs.VariableLemmas.{few_inputs_of}
use Rattle.netlist.proofs.net.unlike_of.Goals as goal

pub overflow_cast-inputs : goal.overflow_cast-inputs
overflow_cast-inputs c = omega (arith, few_inputs_of c.args.a.now c.inputs.ensures.circuit, ap length c.inputs.ensures.inputs)

pub overflow_cast-inputs-2 : goal.overflow_cast-inputs-2
overflow_cast-inputs-2 c = omega (arith, few_inputs_of c.args.b.now c.inputs-2.ensures.circuit, ap length c.inputs-2.ensures.inputs)
