use Rattle.std.proofs.Common.{arith}
use Rattle.netlist.proofs.NetLemmas.{length-nodes}
use Rattle.netlist.proofs.pair.CircuitPair.positions.Goals as goal

pub returns : goal.returns
returns c =
    let sizes = c.sizes-sizes.ensures in
    omega (arith, length-nodes c.args.self.now, sizes.inputs, sizes.gates_a, sizes.gates_b)
