-- Behind the inputs stand the gates, in order.
use Rattle.std.proofs.Common.{◌≡◌, ◌+◌, ◌-◌, ◌∙◌, ℕ, length, Some, ap, refl, sym, arith}
use Rattle.lits.specs.Dimacs.{DimacsLiteral}
use Rattle.netlist.specs.Circuit.{Aig}
use Rattle.flat_cones.specs.Walk.{IsGateOf}
use Rattle.flat_cones.proofs.GateLemmas.{gate-of, variable-small}
use Rattle.flat_cones.proofs.nodes.gate_of.Goals as goal

pub numbered-requires : goal.numbered-requires
numbered-requires c =
    let k = c.args.variable - 1 - (1 + length c.inputs.result.now) in
    let count : length c.inputs.result.now ≡ length c.args.net.now.a.inputs =
    ap length (c.inputs.ensures.inputs ∙ ap (λ (a : Aig). a.inputs) c.circuit.ensures.circuit) in
    let left : DimacsLiteral = record { var = c.in-Some.fanins.left.position + 1; neg = c.in-Some.fanins.left.neg } in
    let right : DimacsLiteral = record { var = c.in-Some.fanins.right.position + 1; neg = c.in-Some.fanins.right.neg } in
    let gate = gate-of c.args.net.now c.requires.net c.args.variable k (omega (arith, count, c.if-place-first.false, c.requires.variable.0)) left right
    c.in-Some.fanins (sym c.in-Some.ensures) refl refl in
    omega (arith, gate.left_lower.1, variable-small c.args.net.now c.requires.net c.args.variable c.requires.variable)

pub numbered-requires-in-Some : goal.numbered-requires-in-Some
numbered-requires-in-Some c =
    let k = c.args.variable - 1 - (1 + length c.inputs.result.now) in
    let count : length c.inputs.result.now ≡ length c.args.net.now.a.inputs =
    ap length (c.inputs.ensures.inputs ∙ ap (λ (a : Aig). a.inputs) c.circuit.ensures.circuit) in
    let left : DimacsLiteral = record { var = c.in-Some.fanins.left.position + 1; neg = c.in-Some.fanins.left.neg } in
    let right : DimacsLiteral = record { var = c.in-Some.fanins.right.position + 1; neg = c.in-Some.fanins.right.neg } in
    let gate = gate-of c.args.net.now c.requires.net c.args.variable k (omega (arith, count, c.if-place-first.false, c.requires.variable.0)) left right
    c.in-Some.fanins (sym c.in-Some.ensures) refl refl in
    omega (arith, gate.right_lower.1, variable-small c.args.net.now c.requires.net c.args.variable c.requires.variable)

pub returns-in-Some : goal.returns-in-Some
returns-in-Some c =
    let k = c.args.variable - 1 - (1 + length c.inputs.result.now) in
    let count : length c.inputs.result.now ≡ length c.args.net.now.a.inputs =
    ap length (c.inputs.ensures.inputs ∙ ap (λ (a : Aig). a.inputs) c.circuit.ensures.circuit) in
    gate-of c.args.net.now c.requires.net c.args.variable k (omega (arith, count, c.if-place-first.false, c.requires.variable.0))
    c.numbered.result c.numbered-in-Some.result c.in-Some.fanins (sym c.in-Some.ensures) c.numbered.ensures c.numbered-in-Some.ensures
