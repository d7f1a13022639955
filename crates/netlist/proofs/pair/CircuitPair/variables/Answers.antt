use Rattle.std.proofs.Common.{arith}
use Rattle.netlist.proofs.NetLemmas.{length-nodes, length-variables}
use Rattle.netlist.proofs.pair.CircuitPair.variables.Goals as goal

pub returns-clause-count : goal.returns-clause-count
returns-clause-count c =
    let sizes = c.sizes-sizes.ensures in
    omega (arith, length-nodes c.args.self.now, length-variables c.args.self.now, sizes.inputs, sizes.gates_a, sizes.gates_b, sizes.outputs)
