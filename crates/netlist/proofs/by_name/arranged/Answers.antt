use Rattle.std.proofs.Common.{◌≡◌, ◌∙◌, length, None, ap, sym, subst, arith}
use Rattle.netlist.specs.declared.port.Port.TheVariants.{Input, Output}
use Rattle.netlist.specs.Circuit.{Aig, IsCircuit}
use Rattle.netlist.specs.ByName.{arranged, unlike_names}
use Rattle.netlist.proofs.ArrangedLemmas.{IsCircuit-arranged, arranged-is}
use Rattle.netlist.proofs.UnlikeLemmas.{names-paired}
use Rattle.netlist.proofs.VariableLemmas.{few_inputs_of}
use Rattle.netlist.proofs.by_name.arranged.Goals as goal

pub in_order-requires-clause-few : goal.in_order-requires-clause-few
in_order-requires-clause-few c = omega (arith, few_inputs_of c.args.b c.inputs.ensures.circuit, ap length c.inputs.ensures.inputs)

pub of_parts-requires : goal.of_parts-requires
of_parts-requires c =
    let a = c.args.a.now in
    let b = c.args.b in
    let is_a = c.names-of_a.ensures.circuit in
    let is_b = c.inputs.ensures.circuit in
    let of_a : c.names-of_a.result.now ≡ a.names = c.names-of_a.ensures.names in
    let of_b : c.names-of_b.result.now ≡ b.names = c.names-of_b.ensures.names in
    let inputs : unlike_names Input a.names.inputs b.names.inputs ≡ None = rw (← of_a, ← of_b) c.in_ok-inputs.ensures.0 in
    let outputs : unlike_names Output a.names.outputs b.names.outputs ≡ None = rw (← of_a, ← of_b) c.in_ok-outputs.ensures.0 in
    let count_inputs : length a.names.inputs ≡ length b.names.inputs = is_a.names.input_places ∙ c.requires.inputs ∙ sym is_b.names.input_places in
    let count_outputs : length a.names.outputs ≡ length b.names.outputs = is_a.names.output_places ∙ c.requires.outputs ∙ sym is_b.names.output_places in
    let same_in : c.in_ok-inputs.inputs.items ≡ (arranged a b).inputs = rw (← of_a, ← of_b, ← c.inputs.ensures.inputs) c.in_ok-inputs.ensures.1 in
    let same_out : c.in_ok-outputs.outputs.items ≡ (arranged a b).outputs = rw (← of_a, ← of_b, ← c.outputs.ensures.outputs) c.in_ok-outputs.ensures.1 in
    let is : c.with_ports.result ≡ arranged a b =
    arranged-is a b c.into_parts.result c.with_ports.result c.in_ok-inputs.inputs.items c.in_ok-outputs.outputs.items c.in_ok-names.names c.with_ports.ensures c.into_parts.ensures same_in same_out
    (c.in_ok-names.ensures ∙ of_a) in
    subst (λ (g : Aig). IsCircuit g) (sym is)
    (IsCircuit-arranged a b is_a is_b (names-paired Input a.names.inputs b.names.inputs count_inputs inputs) (names-paired Output a.names.outputs b.names.outputs count_outputs outputs))
