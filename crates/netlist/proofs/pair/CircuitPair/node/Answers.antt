use Rattle.std.proofs.Common.{arith}
use Rattle.netlist.proofs.NetLemmas.{length-nodes, length-variables, node_at-input, node_at-gate_a, node_at-gate_b, node_at-xor}
use Rattle.netlist.proofs.pair.CircuitPair.node.Goals as goal

pub returns-then-place-first_a : goal.returns-then-place-first_a
returns-then-place-first_a c =
    node_at-input c.args.self.now c.args.place _ (omega arith) (omega (arith, c.sizes-sizes.ensures.inputs))

pub returns-then-place-first_b : goal.returns-then-place-first_b
returns-then-place-first_b c =
    rw c.gate_node.ensures
    (node_at-gate_a c.args.self.now c.args.place _ (omega (arith, c.sizes-sizes.ensures.inputs))
    (omega (arith, c.sizes-sizes.ensures.gates_a)))

pub returns-then-place-first_xor : goal.returns-then-place-first_xor
returns-then-place-first_xor c =
    rw c.gate_node-then-place-first_xor.ensures
    (node_at-gate_b c.args.self.now c.args.place _ (omega (arith, c.sizes-sizes.ensures.inputs, c.sizes-sizes.ensures.gates_a))
    (omega (arith, c.sizes-sizes.ensures.gates_b)))

pub returns-else-place-first_xor : goal.returns-else-place-first_xor
returns-else-place-first_xor c =
    node_at-xor c.args.self.now c.args.place _
    (omega (arith, c.sizes-sizes.ensures.inputs, c.sizes-sizes.ensures.gates_a, c.sizes-sizes.ensures.gates_b))
    (omega (
      arith,
      c.requires,
      length-nodes c.args.self.now,
      length-variables c.args.self.now,
      c.sizes-sizes.ensures.inputs,
      c.sizes-sizes.ensures.gates_a,
      c.sizes-sizes.ensures.gates_b,
    ))
