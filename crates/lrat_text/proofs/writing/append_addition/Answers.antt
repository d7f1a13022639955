use Rattle.std.proofs.Common.{◌∙◌, map, Ok, Err}
use Rattle.std.specs.Prelude.{Result, OnErr}
use Rattle.std.proofs.lemmas.Result.{err_from_is_err_and}
use Rattle.tokens.specs.Text.{literal_text, spaced}
use Rattle.tokens.proofs.Facts.{begins_after}
use Rattle.lrat_text.proofs.writing.append_addition.Goals as goal

-- what follows from a fact of an error is a fact of it too
err-so : {T E P Q : Type 0} (r : Result T E) → (P → Q) → OnErr r P → OnErr r Q
err-so (Ok x) f h = tt
err-so (Err e) f h = f h

pub returns-in_err-push_literals-clause-err : goal.returns-in_err-push_literals-clause-err
returns-in_err-push_literals-clause-err c =
    let f = c.from_residual-in_err-push_literals in
    let p = err_from_is_err_and f.result f.ensures.1 in
    rw p.1 (begins_after _ _ _ _ c.in_ok-push_number.ensures.ok c.in_err-push_literals.ensures.err)

pub returns-in_err-extend_from_slice-clause-err : goal.returns-in_err-extend_from_slice-clause-err
returns-in_err-extend_from_slice-clause-err c =
    let f = c.from_residual-in_err-extend_from_slice in
    let p = err_from_is_err_and f.result f.ensures.1 in
    rw p.1 (begins_after _ _ _ _ c.in_ok-push_number.ensures.ok (record {
      more = spaced (map literal_text c.args.clause.now);
      is = c.in_err-extend_from_slice.ensures.items ∙ c.in_ok-push_literals.ensures.ok;
    }))

pub returns-clause-err : goal.returns-clause-err
returns-clause-err c =
    err-so c.end_ids.result
    (λ begins. begins_after _ _ _ _ c.in_ok-push_number.ensures.ok
    (begins_after _ _ _ _ c.in_ok-push_literals.ensures.ok (begins_after _ _ _ _ c.in_ok-extend_from_slice.ensures.items begins)))
    c.end_ids.ensures.err
