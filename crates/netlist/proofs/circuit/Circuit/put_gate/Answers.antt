use Rattle.std.proofs.Common.{◌≡◌, ◌++◌, sym, subst}
use Rattle.netlist.specs.Circuit.{Aig, IsCircuit, gate_vars, variables_in}
use Rattle.netlist.specs.VariableTable.{IsTable, HasRoom}
use Rattle.netlist.proofs.EditedCircuits.{is_put}
use Rattle.netlist.proofs.EditedTables.{put_is, room_put, refill_variables, refill_room, refilled}
use Rattle.netlist.proofs.circuit.Circuit.put_gate.Goals as goal

pub invariant_of-self-in_err-insert_gate : goal.invariant_of-self-in_err-insert_gate
invariant_of-self-in_err-insert_gate c =
    let same : c.insert_gate.new.self ≡ c.self.inside.parts = cc (c.in_err-insert_gate.ensures.err, c.self.view_is) in
    record {
      circuit = subst (λ (g : Aig). IsCircuit g) (sym same) c.self.invariant.circuit;
      table = subst (λ (g : Aig). IsTable c.make_room.new.self (variables_in g)) (sym same)
          (c.make_room.ensures.table _ c.self.invariant.table);
    }

pub returns-clause-circuit : goal.returns-clause-circuit
returns-clause-circuit c =
    let new = put_is c.args.gate c.args.before c.gates_before-index.result c.self.view_is c.gates_before-index.ensures.before c.gates_before-index.ensures.since c.in_ok-insert_gate.ensures.ok in
    let circuit = subst (λ (g : Aig). IsCircuit g) c.self.view_is c.self.invariant.circuit in
    subst (λ (g : Aig). IsCircuit g) (sym new) (is_put c.args.self.now c.args.gate c.args.before circuit c.requires)

pub refill-requires-clause-variables : goal.refill-requires-clause-variables
refill-requires-clause-variables c =
    let new = put_is c.args.gate c.args.before c.gates_before-index.result c.self.view_is c.gates_before-index.ensures.before c.gates_before-index.ensures.since c.in_ok-insert_gate.ensures.ok in
    let circuit = subst (λ (g : Aig). IsCircuit g) c.self.view_is c.self.invariant.circuit in
    refill_variables c.insert_gate.new.self c.inputs.result.now c.gates.result.now c.inputs.ensures c.gates.ensures
    (subst (λ (g : Aig). IsCircuit g) (sym new) (is_put c.args.self.now c.args.gate c.args.before circuit c.requires))

pub refill-requires-clause-room : goal.refill-requires-clause-room
refill-requires-clause-room c =
    let new = put_is c.args.gate c.args.before c.gates_before-index.result c.self.view_is c.gates_before-index.ensures.before c.gates_before-index.ensures.since c.in_ok-insert_gate.ensures.ok in
    let circuit = subst (λ (g : Aig). IsCircuit g) c.self.view_is c.self.invariant.circuit in
    let table = subst (λ (g : Aig). IsTable c.make_room.new.self (variables_in g)) c.self.view_is
    (c.make_room.ensures.table _ c.self.invariant.table) in
    refill_room c.insert_gate.new.self c.inputs.result.now c.gates.result.now c.inputs.ensures c.gates.ensures c.make_room.new.self
    (subst (λ (g : Aig). HasRoom c.make_room.new.self (g.inputs ++ gate_vars g.gates)) (sym new)
    (room_put c.args.self.now c.make_room.new.self c.args.gate c.args.before circuit table c.requires c.in_ok-make_room.ensures.room))

pub invariant_of-self-2 : goal.invariant_of-self-2
invariant_of-self-2 c =
    let new = put_is c.args.gate c.args.before c.gates_before-index.result c.self.view_is c.gates_before-index.ensures.before c.gates_before-index.ensures.since c.in_ok-insert_gate.ensures.ok in
    let circuit = subst (λ (g : Aig). IsCircuit g) c.self.view_is c.self.invariant.circuit in
    refilled c.insert_gate.new.self c.inputs.result.now c.gates.result.now c.inputs.ensures c.gates.ensures c.refill.new.self
    (subst (λ (g : Aig). IsCircuit g) (sym new) (is_put c.args.self.now c.args.gate c.args.before circuit c.requires)) c.refill.ensures
