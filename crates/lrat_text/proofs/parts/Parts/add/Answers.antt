use Rattle.std.proofs.Common.{◌≡◌, true, false, refl, lt-ltb, le-ltb, eq-eqb, ne_eqb, arith}
use Rattle.std.proofs.lemmas.Result.{err_from_is_err_and}
use Rattle.lrat_text.specs.Numbers.{is_zero, is_literal, is_hint}
use Rattle.lrat_text.proofs.PlaceLemmas.{read-zero, read-literal, read-last_zero, read-hint, misread-literal, misread-hint, misread-end}
use Rattle.lrat_text.proofs.parts.Parts.add.Goals as goal

pub returns-in_err-literal-in-Literals-2-clause-err :
    goal.returns-in_err-literal-in-Literals-2-clause-err
returns-in_err-literal-in-Literals-2-clause-err c =
    let p = err_from_is_err_and c.from_residual.result c.from_residual.ensures.1 in
    let told = c.in_err-literal-in-Literals-2.ensures.err in
    let other : is_zero c.args.number ≡ false = ne_eqb _ _ (λ e. omega arith) in
    let wrong : is_literal c.args.number ≡ false = le-ltb _ _ told.1 in
    rw (p.1, p.2, told.0) (
      refl,
      λ ns more r. misread-literal ns c.args.number _ _ _ other wrong more
          (rw c.in-Literals-2.is at r),
    )

pub returns-then-number-ge-NUMBER_LIMIT-clause-err : goal.returns-then-number-ge-NUMBER_LIMIT-clause-err
returns-then-number-ge-NUMBER_LIMIT-clause-err c =
    let other : is_zero c.args.number ≡ false = ne_eqb _ _ (λ e. omega arith) in
    let wrong : is_hint c.args.number ≡ false = le-ltb _ _ (omega arith) in (
      refl,
      λ ns more r. misread-hint ns c.args.number _ _ _ other wrong more
          (rw c.in-Hints-2.is at r),
    )

pub returns-in-End-clause-err : goal.returns-in-End-clause-err
returns-in-End-clause-err c =
    (refl, λ ns more r. misread-end ns c.args.number _ _ _ more (rw c.in-End.is at r))

pub returns-in-Literals-clause-ok : goal.returns-in-Literals-clause-ok
returns-in-Literals-clause-ok c ns r =
    let zero : is_zero c.args.number ≡ true = eq-eqb _ _ (omega arith) in
    read-zero ns c.args.number _ _ _ zero (rw c.in-Literals.is at r)

pub returns-in_ok-push-in-Literals-2-clause-ok : goal.returns-in_ok-push-in-Literals-2-clause-ok
returns-in_ok-push-in-Literals-2-clause-ok c ns r =
    let told = c.in_ok-literal-in-Literals-2.ensures.ok in
    let other : is_zero c.args.number ≡ false = ne_eqb _ _ (λ e. omega arith) in
    let fits : is_literal c.args.number ≡ true = lt-ltb _ _ told.1 in
    rw (c.in_ok-push-in-Literals-2.ensures.items, told.0, c.in-Literals-2.is)
    (read-literal ns c.args.number _ _ _ other fits (rw c.in-Literals-2.is at r))

pub returns-in-Hints-clause-ok : goal.returns-in-Hints-clause-ok
returns-in-Hints-clause-ok c ns r =
    let zero : is_zero c.args.number ≡ true = eq-eqb _ _ (omega arith) in
    read-last_zero ns c.args.number _ _ _ zero (rw c.in-Hints.is at r)

pub returns-in_ok-push-in-Hints-2-clause-ok : goal.returns-in_ok-push-in-Hints-2-clause-ok
returns-in_ok-push-in-Hints-2-clause-ok c ns r =
    let other : is_zero c.args.number ≡ false = ne_eqb _ _ (λ e. omega arith) in
    let fits : is_hint c.args.number ≡ true = lt-ltb _ _ (omega arith) in
    rw (c.in_ok-push-in-Hints-2.ensures.items, c.in-Hints-2.is)
    (read-hint ns c.args.number _ _ _ other fits (rw c.in-Hints-2.is at r))
