use Rattle.std.proofs.Common.{arith, ap, length}
use Rattle.std.proofs.lemmas.Result.{err_from_is_err_and}
use Rattle.tokens.proofs.Facts.{begins_after}
use Rattle.circuit_text.proofs.SymbolLemmas.{symbols-more}
use Rattle.circuit_text.proofs.symbols.push_output_symbols.Goals as goal

pub loop-j-preserved : goal.loop-j-preserved
loop-j-preserved c =
    let places = c.outputs.ensures.circuit.names.output_places in
    symbols-more 111 c.loop-j.j c.args.circuit.now.names.outputs _ _ _ _
    (omega (arith, places, c.loop-j-test.true, ap length c.outputs.ensures.outputs)) c.loop-j.invariant c.output_name.ensures
    c.in_ok-push_symbol.ensures.ok

pub returns-in_err-push_symbol-clause-err : goal.returns-in_err-push_symbol-clause-err
returns-in_err-push_symbol-clause-err c =
    let p = err_from_is_err_and c.from_residual.result c.from_residual.ensures.1 in
    rw p.1 (begins_after _ _ _ _ c.loop-j.invariant c.in_err-push_symbol.ensures.err)
