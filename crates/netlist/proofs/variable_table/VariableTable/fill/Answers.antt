use Rattle.std.proofs.Common.{◌∷◌, ◌++◌, ◌∙◌, refl, sym, subst, arith}
use Rattle.std.proofs.lemmas.List.{append-nil, take_all, take_more}
use Rattle.netlist.specs.Circuit.{gate_vars}
use Rattle.netlist.specs.VariableTable.{IsTable}
use Rattle.netlist.proofs.VariableLemmas.{few_inputs, few_gates, new_input, new_gate, vars_more}
use Rattle.netlist.specs.declared.gate.And.{And}
use Rattle.netlist.proofs.RoomLemmas.{has-item, has-left, has-right, has-gate_item}
use Rattle.netlist.proofs.variable_table.VariableTable.fill.Goals as goal

abbrev none : And
none = record { var = 0; left = 0; right = 0 }

pub push-requires-clause-few : goal.push-requires-clause-few
push-requires-clause-few c =
    omega (arith, c.loop-var.invariant.0.count, few_inputs c.args.inputs.now c.args.gates.now c.loop-var.var-index c.requires.variables)

pub loop-var-preserved : goal.loop-var-preserved
loop-var-preserved c =
    let new = new_input c.args.inputs.now c.args.gates.now c.loop-var.var-index c.requires.variables c.loop-var-test.true in
    let grown = c.push.ensures.table _ c.loop-var.invariant.0 new in
    (subst (λ vars. IsTable c.push.new.self (0 ∷ vars)) (sym (take_more c.args.inputs.now c.loop-var.var-index 0 c.loop-var-test.true)) grown, cc)

pub push-requires-in-loop-gate-clause-few : goal.push-requires-in-loop-gate-clause-few
push-requires-in-loop-gate-clause-few c =
    omega (arith, c.loop-gate.invariant.0.count, few_gates c.args.inputs.now c.args.gates.now c.loop-gate.gate-index c.requires.variables)

pub loop-gate-preserved : goal.loop-gate-preserved
loop-gate-preserved c =
    let now = c.loop-gate.gate-index in
    let new = new_gate c.args.inputs.now c.args.gates.now now _ c.requires.variables c.loop-gate-test.true in
    let grown = c.push-in-loop-gate.ensures.table _ c.loop-gate.invariant.0 new in
    (subst (λ vars. IsTable c.push-in-loop-gate.new.self (0 ∷ vars)) (vars_more c.args.inputs.now c.args.gates.now now _ c.loop-gate-test.true) grown, cc)

pub loop-gate-init : goal.loop-gate-init
loop-gate-init c =
    let inputs = c.args.inputs.now in
    (subst (λ vars. IsTable c.loop-var.self (0 ∷ vars)) (take_all c.loop-var.var-index inputs c.loop-var-test.false ∙ sym (append-nil inputs)) c.loop-var.invariant.0, refl)

pub returns : goal.returns
returns c =
    subst (λ gates. IsTable c.loop-gate.self (0 ∷ (c.args.inputs.now ++ gate_vars gates)))
    (take_all c.loop-gate.gate-index c.args.gates.now c.loop-gate-test.false) c.loop-gate.invariant.0

pub push-requires-clause-room : goal.push-requires-clause-room
push-requires-clause-room c =
    let i = c.loop-var.var-index in
    let there = has-left c.args.inputs.now (gate_vars c.args.gates.now) _ (has-item c.args.inputs.now i 0 c.loop-var-test.true) in
    omega (arith, c.requires.room _ there, c.loop-var.invariant.1)

pub push-requires-in-loop-gate-clause-room : goal.push-requires-in-loop-gate-clause-room
push-requires-in-loop-gate-clause-room c =
    let i = c.loop-gate.gate-index in
    let there = has-right c.args.inputs.now (gate_vars c.args.gates.now) _ (has-gate_item c.args.gates.now i none c.loop-gate-test.true) in
    omega (arith, c.requires.room _ there, c.loop-gate.invariant.1)
