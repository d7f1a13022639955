use Rattle.std.proofs.lemmas.Result.{err_from_is_err_and}
use Rattle.tokens.proofs.Facts.{begins_after}
use Rattle.lrat_text.proofs.writing.push_ids.Goals as goal

pub returns-in_err-push_id-clause-err : goal.returns-in_err-push_id-clause-err
returns-in_err-push_id-clause-err c =
    let p = err_from_is_err_and c.from_residual.result c.from_residual.ensures.1 in
    rw p.1 (begins_after _ _ _ _ c.loop-id.invariant c.in_err-push_id.ensures.err)
