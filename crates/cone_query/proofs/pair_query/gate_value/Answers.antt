use Rattle.std.proofs.Common.{◌≡◌, ◌*◌, true, sym, subst, arith}
use Rattle.netlist.specs.Circuit.{Aig, is_over, variables_in}
use Rattle.cone_query.proofs.ValueLemmas.{gate-known, gate-small}
use Rattle.cone_query.proofs.pair_query.gate_value.Goals as goal

pub overflow_mul-var : goal.overflow_mul-var
overflow_mul-var c =
    let small = gate-small c.args.net.now c.is_net.ensures c.args.gate c.requires.placed c.in-Gate.side c.in-Gate.var c.in-Gate.is in
    omega (arith, small)

pub value-requires-clause-lit : goal.value-requires-clause-lit
value-requires-clause-lit c =
    subst (λ (x : Aig). is_over (variables_in x) (2 * c.in-Gate.var) ≡ true) (sym c.circuit-circuit.ensures.circuit)
    (gate-known c.args.net.now c.is_net.ensures c.args.gate c.requires.placed c.in-Gate.side c.in-Gate.var c.in-Gate.is)
