use Rattle.std.proofs.Common.{◌≡◌, ◌+◌, arith, ap, length}
use Rattle.netlist.proofs.Facts.{few_gates_of}
use Rattle.workload_gen.proofs.SpellLemmas.{is_bound, ascii-spells}
use Rattle.workload_gen.proofs.design.Design.ascii.Goals as goal

pub overflow_cast-variables : goal.overflow_cast-variables
overflow_cast-variables c =
    let few = few_gates_of c.in_ok-circuit.circuit c.in_ok-circuit.ensures.circuit in
    omega (arith, few, ap length c.inputs.ensures.inputs, ap length c.gates.ensures.gates)

pub push_ascii-requires : goal.push_ascii-requires
push_ascii-requires c =
    is_bound c.in_ok-circuit.circuit _ c.in_ok-circuit.ensures.circuit c.in_ok-circuit.ensures.sequence
    (omega (arith, ap length c.inputs.ensures.inputs, ap length c.gates.ensures.gates))

pub returns-clause-spells : goal.returns-clause-spells
returns-clause-spells c =
    let made = c.in_ok-circuit.ensures in
    let bound = is_bound c.in_ok-circuit.circuit _ made.circuit made.sequence
    (omega (arith, ap length c.inputs.ensures.inputs, ap length c.gates.ensures.gates)) in
    ascii-spells c.in_ok-circuit.circuit _ _ _ _ made.same made.circuit bound c.new-text.ensures.items c.in_ok-push_ascii.ensures.ok
