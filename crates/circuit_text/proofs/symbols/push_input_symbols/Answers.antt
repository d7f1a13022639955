use Rattle.std.proofs.Common.{arith, ap, length}
use Rattle.std.proofs.lemmas.Result.{err_from_is_err_and}
use Rattle.tokens.proofs.Facts.{begins_after}
use Rattle.netlist.proofs.Facts.{few_gates_of}
use Rattle.circuit_text.proofs.SymbolLemmas.{symbols-more}
use Rattle.circuit_text.proofs.symbols.push_input_symbols.Goals as goal

pub overflow_cast-count : goal.overflow_cast-count
overflow_cast-count c =
    let few = few_gates_of c.args.circuit.now c.inputs.ensures.circuit in omega (arith, few, ap length c.inputs.ensures.inputs)

pub loop-k-preserved : goal.loop-k-preserved
loop-k-preserved c =
    let places = c.inputs.ensures.circuit.names.input_places in
    symbols-more 105 c.loop-k.k c.args.circuit.now.names.inputs _ _ _ _
    (omega (arith, places, c.loop-k-test.true, ap length c.inputs.ensures.inputs)) c.loop-k.invariant c.input_name.ensures
    c.in_ok-push_symbol.ensures.ok

pub returns-in_err-push_symbol-clause-err : goal.returns-in_err-push_symbol-clause-err
returns-in_err-push_symbol-clause-err c =
    let p = err_from_is_err_and c.from_residual.result c.from_residual.ensures.1 in
    rw p.1 (begins_after _ _ _ _ c.loop-k.invariant c.in_err-push_symbol.ensures.err)
