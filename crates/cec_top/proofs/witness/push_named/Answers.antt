use Rattle.std.proofs.Common.{arith, ap, length, refl}
use Rattle.netlist.proofs.Facts.{few_gates_of}
use Rattle.cec_top.proofs.NamedLemmas.{goes-on, goes-through}
use Rattle.cec_top.proofs.witness.push_named.Goals as goal

pub overflow_cast-count : goal.overflow_cast-count
overflow_cast-count c =
    let few = few_gates_of c.args.circuit.now c.inputs.ensures.circuit in omega (arith, few, ap length c.inputs.ensures.inputs)

pub loop-k-init : goal.loop-k-init
loop-k-init c = refl

pub loop-k-preserved : goal.loop-k-preserved
loop-k-preserved c =
    let places = c.inputs.ensures.circuit.names.input_places in
    goes-on c.args.circuit.now.names.inputs c.args.input.now c.args.text.now.items c.loop-k.text.items _ c.loop-k.k
    (omega (arith, places, c.loop-k-test.true, ap length c.inputs.ensures.inputs)) c.loop-k.invariant c.in_ok-push_at.ensures

pub returns : goal.returns
returns c =
    let places = c.inputs.ensures.circuit.names.input_places in
    goes-through c.args.circuit.now.names.inputs c.args.input.now c.args.text.now.items c.loop-k.text.items c.loop-k.k
    (omega (arith, places, c.loop-k-test.false, ap length c.inputs.ensures.inputs)) c.loop-k.invariant
