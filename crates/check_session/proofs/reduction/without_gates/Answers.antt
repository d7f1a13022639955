use Rattle.std.proofs.Common.{rules, ◌≡◌, ℕ, List, length, replicate, ap, sym, subst, arith}
use Rattle.std.specs.Prelude.{IfOk}
use Rattle.netlist.specs.Circuit.{Aig, IsCircuit}
use Rattle.netlist.proofs.Facts.{few_gates_of}
use Rattle.check_session.proofs.ReductionLemmas.{made-without_gates, without_gates-circuit}
use Rattle.check_session.proofs.reduction.without_gates.Goals as goal

pub overflow_cast-len : goal.overflow_cast-len
overflow_cast-len c =
    let inputs : c.in_ok-inputs.inputs.items ≡ c.args.a.now.inputs = search rules in
    omega (arith, few_gates_of c.args.a.now c.inputs.ensures.circuit, ap (λ (l : List ℕ). length l) inputs, c.len.ensures)

pub of-requires : goal.of-requires
of-requires c =
    let inputs : c.in_ok-inputs.inputs.items ≡ c.args.a.now.inputs = search rules in
    let outputs : c.in_ok-outputs.outputs.items ≡ replicate (length c.args.a.now.outputs) 0 = search rules in
    subst (λ (x : Aig). IsCircuit x) (made-without_gates c.args.a.now _ _ _ _ _ inputs (search rules) outputs (search rules) (search rules))
    (without_gates-circuit c.args.a.now c.inputs.ensures.circuit)

pub returns : goal.returns
returns c =
    let inputs : c.in_ok-inputs.inputs.items ≡ c.args.a.now.inputs = search rules in
    let outputs : c.in_ok-outputs.outputs.items ≡ replicate (length c.args.a.now.outputs) 0 = search rules in
    subst (λ (x : Aig). IfOk c.of.result (λ r. r ≡ x))
    (sym (made-without_gates c.args.a.now _ _ _ _ _ inputs (search rules) outputs (search rules) (search rules))) c.of.ensures
