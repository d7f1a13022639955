use Rattle.std.proofs.Common.{◌∙◌, length, ap, arith}
use Rattle.netlist.specs.Circuit.{Aig}
use Rattle.netlist.proofs.NetLemmas.{sizes_of}
use Rattle.netlist.proofs.VariableLemmas.{few_gates_of}
use Rattle.netlist.proofs.pair.CircuitPair.sizes.Goals as goal

pub overflow_cast-result : goal.overflow_cast-result
overflow_cast-result c = omega (arith, few_gates_of c.circuit-a.result.now c.inputs.ensures.circuit, ap length c.inputs.ensures.inputs)

pub overflow_cast-result-2 : goal.overflow_cast-result-2
overflow_cast-result-2 c = omega (arith, few_gates_of c.circuit-a.result.now c.inputs.ensures.circuit, ap length c.gates.ensures.gates)

pub overflow_cast-result-3 : goal.overflow_cast-result-3
overflow_cast-result-3 c = omega (arith, few_gates_of c.circuit-b.result.now c.gates-2.ensures.circuit, ap length c.gates-2.ensures.gates)

pub returns : goal.returns
returns c = sizes_of c.args.self.now _ c.circuit-a.ensures.net
    (ap length (c.inputs.ensures.inputs ∙ ap (λ (g : Aig). g.inputs) c.circuit-a.ensures.circuit))
    (ap length (c.gates.ensures.gates ∙ ap (λ (g : Aig). g.gates) c.circuit-a.ensures.circuit))
    (ap length (c.gates-2.ensures.gates ∙ ap (λ (g : Aig). g.gates) c.circuit-b.ensures.circuit))
    (ap length (c.outputs.ensures.outputs ∙ ap (λ (g : Aig). g.outputs) c.circuit-a.ensures.circuit))
