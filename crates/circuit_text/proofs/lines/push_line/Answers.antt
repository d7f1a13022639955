-- Where memory is refused, the numbers so far stand behind the text.
use Rattle.std.proofs.Common.{[], ◌∷◌, ◌∙◌, sym, append-nil}
use Rattle.std.proofs.lemmas.Result.{err_from_is_err_and}
use Rattle.circuit_text.proofs.BeginLemmas.{begins_behind}
use Rattle.circuit_text.proofs.lines.push_line.Goals as goal

pub returns-in_err-push-clause-err : goal.returns-in_err-push-clause-err
returns-in_err-push-clause-err c =
    let p = err_from_is_err_and c.from_residual-in_err-push.result c.from_residual-in_err-push.ensures.1 in
    rw p.1 (begins_behind _ _ _ _ _ c.loop-number.invariant (record { more = []; is = c.in_err-push.ensures.items ∙ sym (append-nil _) }))

pub returns-in_err-push_number-2-clause-err : goal.returns-in_err-push_number-2-clause-err
returns-in_err-push_number-2-clause-err c =
    let p = err_from_is_err_and c.from_residual-in_err-push_number-2.result c.from_residual-in_err-push_number-2.ensures.1 in
    rw p.1
    (begins_behind _ _ _ _ _ c.loop-number.invariant (record { more = 32 ∷ []; is = c.in_err-push_number-2.ensures.err ∙ c.in_ok-push.ensures.items }))

pub returns-in_err-push-2-clause-err : goal.returns-in_err-push-2-clause-err
returns-in_err-push-2-clause-err c =
    let p = err_from_is_err_and c.from_residual-in_err-push-2.result c.from_residual-in_err-push-2.ensures.1 in
    rw p.1 (begins_behind _ _ _ _ _ c.loop-number.invariant (record { more = []; is = c.in_err-push-2.ensures.items ∙ sym (append-nil _) }))
