use Rattle.std.proofs.Common.{◌≡◌, ◌++◌, Some, sym, subst}
use Rattle.netlist.specs.Circuit.{Aig, IsCircuit, gate_vars}
use Rattle.netlist.specs.VariableTable.{HasRoom}
use Rattle.netlist.specs.Source.{IsIndexed}
use Rattle.netlist.proofs.EditedCircuits.{is_dropped}
use Rattle.netlist.proofs.EditedTables.{gate_there, dropped_is, room_dropped, refill_variables, refill_room, refilled}
use Rattle.netlist.proofs.circuit.Circuit.drop_gate.Goals as goal

pub unwrap-index-requires : goal.unwrap-index-requires
unwrap-index-requires c = gate_there c.args.self.now c.args.var c.gate.result c.gate.ensures.gate c.requires.gate

pub returns-clause-gate : goal.returns-clause-gate
returns-clause-gate c =
    let found : c.gate.result ≡ Some c.unwrap-index.result = cc c.unwrap-index.ensures in
    dropped_is c.args.var c.unwrap-index.result c.self.view_is c.self.invariant c.gate.ensures.gate found c.remove_gate.ensures

pub returns-clause-circuit : goal.returns-clause-circuit
returns-clause-circuit c =
    let found : c.gate.result ≡ Some c.unwrap-index.result = cc c.unwrap-index.ensures in
    let new = dropped_is c.args.var c.unwrap-index.result c.self.view_is c.self.invariant c.gate.ensures.gate found c.remove_gate.ensures in
    let circuit = subst (λ (g : Aig). IsCircuit g) c.self.view_is c.self.invariant.circuit in
    subst (λ (g : Aig). IsCircuit g) (sym new) (is_dropped c.args.self.now c.args.var circuit c.requires)

pub refill-requires-clause-variables : goal.refill-requires-clause-variables
refill-requires-clause-variables c =
    let found : c.gate.result ≡ Some c.unwrap-index.result = cc c.unwrap-index.ensures in
    let new = dropped_is c.args.var c.unwrap-index.result c.self.view_is c.self.invariant c.gate.ensures.gate found c.remove_gate.ensures in
    let circuit = subst (λ (g : Aig). IsCircuit g) c.self.view_is c.self.invariant.circuit in
    refill_variables c.remove_gate.new.self c.inputs.result.now c.gates.result.now c.inputs.ensures c.gates.ensures
    (subst (λ (g : Aig). IsCircuit g) (sym new) (is_dropped c.args.self.now c.args.var circuit c.requires))

pub refill-requires-clause-room : goal.refill-requires-clause-room
refill-requires-clause-room c =
    let found : c.gate.result ≡ Some c.unwrap-index.result = cc c.unwrap-index.ensures in
    let new = dropped_is c.args.var c.unwrap-index.result c.self.view_is c.self.invariant c.gate.ensures.gate found c.remove_gate.ensures in
    let indexed = subst (λ (g : Aig). IsIndexed g c.self.inside.table) c.self.view_is c.self.invariant in
    refill_room c.remove_gate.new.self c.inputs.result.now c.gates.result.now c.inputs.ensures c.gates.ensures c.self.inside.table
    (subst (λ (g : Aig). HasRoom c.self.inside.table (g.inputs ++ gate_vars g.gates)) (sym new)
    (room_dropped c.args.self.now c.self.inside.table c.args.var indexed c.requires))

pub invariant_of-self : goal.invariant_of-self
invariant_of-self c =
    let found : c.gate.result ≡ Some c.unwrap-index.result = cc c.unwrap-index.ensures in
    let new = dropped_is c.args.var c.unwrap-index.result c.self.view_is c.self.invariant c.gate.ensures.gate found c.remove_gate.ensures in
    let circuit = subst (λ (g : Aig). IsCircuit g) c.self.view_is c.self.invariant.circuit in
    refilled c.remove_gate.new.self c.inputs.result.now c.gates.result.now c.inputs.ensures c.gates.ensures c.refill.new.self
    (subst (λ (g : Aig). IsCircuit g) (sym new) (is_dropped c.args.self.now c.args.var circuit c.requires)) c.refill.ensures
