use Rattle.std.proofs.lemmas.Result.{err_from_is_err_and}
use Rattle.tokens.proofs.Facts.{begins_after}
use Rattle.circuit_text.proofs.DeltaLemmas.{IsInOrder-gate}
use Rattle.circuit_text.proofs.deltas.push_deltas.Goals as goal

pub push_gate-requires-clause-var : goal.push_gate-requires-clause-var
push_gate-requires-clause-var c =
    (IsInOrder-gate c.args.circuit.now _ c.loop-gate.gate-index _ c.gates-gate-items.ensures.circuit c.requires c.gates-gate-items.ensures.gates c.loop-gate-test.true).var

pub push_gate-requires-clause-left : goal.push_gate-requires-clause-left
push_gate-requires-clause-left c =
    (IsInOrder-gate c.args.circuit.now _ c.loop-gate.gate-index _ c.gates-gate-items.ensures.circuit c.requires c.gates-gate-items.ensures.gates c.loop-gate-test.true).left

pub push_gate-requires-clause-right : goal.push_gate-requires-clause-right
push_gate-requires-clause-right c =
    (IsInOrder-gate c.args.circuit.now _ c.loop-gate.gate-index _ c.gates-gate-items.ensures.circuit c.requires c.gates-gate-items.ensures.gates c.loop-gate-test.true).right

pub returns-in_err-push_gate-clause-err : goal.returns-in_err-push_gate-clause-err
returns-in_err-push_gate-clause-err c =
    let p = err_from_is_err_and c.from_residual.result c.from_residual.ensures.1 in
    rw p.1 (begins_after _ _ _ _ c.loop-gate.invariant c.in_err-push_gate.ensures.err)
