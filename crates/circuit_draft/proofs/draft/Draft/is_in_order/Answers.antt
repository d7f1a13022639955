use Rattle.std.proofs.Common.{arith, ap, ◌∙◌, length}
use Rattle.netlist.specs.Circuit.{Aig}
use Rattle.circuit_draft.proofs.VariableLemmas.{few_gates}
use Rattle.circuit_draft.proofs.OrderLemmas.{stops_left, stops_right, goes_on}
use Rattle.circuit_draft.proofs.draft.Draft.is_in_order.Goals as goal

pub overflow_cast-place : goal.overflow_cast-place
overflow_cast-place c = omega (arith, few_gates c.self.inside.parts.inputs c.self.inside.parts.gates c.self.invariant.draft.variables, ap length c.inputs.ensures)

pub overflow_add-place : goal.overflow_add-place
overflow_add-place c = omega (arith, few_gates c.self.inside.parts.inputs c.self.inside.parts.gates c.self.invariant.draft.variables, ap length c.inputs.ensures)

pub returns-then-not-is_among : goal.returns-then-not-is_among
returns-then-not-is_among c =
    let l = c.loop-gate in
    let same = c.gates-gate-items.ensures ∙ ap (λ (a : Aig). a.gates) c.self.view_is in
    stops_left c.args.self.now c.gates-gate-items.result.now _ l.gate-index l.place same c.loop-gate-test.true l.invariant.place l.invariant.same c.if-not-is_among.ensures

pub returns-then-not-is_among-2 : goal.returns-then-not-is_among-2
returns-then-not-is_among-2 c =
    let l = c.loop-gate in
    let same = c.gates-gate-items.ensures ∙ ap (λ (a : Aig). a.gates) c.self.view_is in
    stops_right c.args.self.now c.gates-gate-items.result.now _ l.gate-index l.place same c.loop-gate-test.true l.invariant.place l.invariant.same c.if-not-is_among.ensures c.if-not-is_among-2.ensures

pub overflow_add-place-in-loop-gate : goal.overflow_add-place-in-loop-gate
overflow_add-place-in-loop-gate c =
    let l = c.loop-gate in
    let same = c.gates-gate-items.ensures ∙ ap (λ (a : Aig). a.gates) c.self.view_is in
    let gates = ap length c.gates-gate-items.ensures in
    let inputs = ap (λ (a : Aig). length a.inputs) c.self.view_is in
    omega (arith, few_gates c.self.inside.parts.inputs c.self.inside.parts.gates c.self.invariant.draft.variables, gates, inputs, l.invariant.place, c.loop-gate-test.true)

pub loop-gate-preserved : goal.loop-gate-preserved
loop-gate-preserved c =
    let l = c.loop-gate in
    let same = c.gates-gate-items.ensures ∙ ap (λ (a : Aig). a.gates) c.self.view_is in
    record {
      place = omega (arith, l.invariant.place);
      same = goes_on c.args.self.now c.gates-gate-items.result.now _ l.gate-index l.place same c.loop-gate-test.true l.invariant.place l.invariant.same c.if-not-is_among.ensures c.if-not-is_among-2.ensures;
    }
