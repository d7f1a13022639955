-- Gates stand behind the constant and the inputs.
use Rattle.std.proofs.Common.{ℕ, ◌+◌, Some, length, ap, sym, ◌∙◌, arith}
use Rattle.netlist.specs.Circuit.{Aig}
use Rattle.strash_pass.proofs.GateFacts.{gates-few, is-gate}
use Rattle.strash_pass.proofs.codes.gate_position.Goals as goal

pub overflow_cast-result : goal.overflow_cast-result
overflow_cast-result c =
    let count = ap length (c.inputs.ensures.inputs ∙ ap (λ (a : Aig). a.inputs) c.circuit.ensures.circuit) in
    omega (arith, count, gates-few c.args.net.now c.requires.net c.args.k c.requires.gate)

pub overflow_add-result : goal.overflow_add-result
overflow_add-result c =
    let count = ap length (c.inputs.ensures.inputs ∙ ap (λ (a : Aig). a.inputs) c.circuit.ensures.circuit) in
    omega (arith, count, gates-few c.args.net.now c.requires.net c.args.k c.requires.gate)

pub overflow_add-result-2 : goal.overflow_add-result-2
overflow_add-result-2 c =
    let count = ap length (c.inputs.ensures.inputs ∙ ap (λ (a : Aig). a.inputs) c.circuit.ensures.circuit) in
    omega (arith, count, gates-few c.args.net.now c.requires.net c.args.k c.requires.gate)

pub returns : goal.returns
returns c = λ gate at.
    let count = ap length (c.inputs.ensures.inputs ∙ ap (λ (a : Aig). a.inputs) c.circuit.ensures.circuit) in
    (is-gate c.args.net.now c.requires.net c.args.k gate at).node ∙ ap (λ (n : ℕ). Some (1 + n + c.args.k)) (sym count)
