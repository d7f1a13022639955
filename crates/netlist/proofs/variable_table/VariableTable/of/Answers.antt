use Rattle.std.proofs.Common.{arith}
use Rattle.netlist.proofs.RoomLemmas.{below_both}
use Rattle.netlist.proofs.variable_table.VariableTable.of.Goals as goal

pub fill-requires-clause-room : goal.fill-requires-clause-room
fill-requires-clause-room c = λ v e.
    let below = below_both c.args.inputs.now c.args.gates.now c.greatest.result v c.greatest.ensures.inputs c.greatest.ensures.gates e in
    omega (arith, below, c.in_ok-table.ensures.room)
