use Rattle.std.proofs.Common.{sym, ◌∙◌}
use Rattle.std.proofs.lemmas.Result.{err_from_is_err_and}
use Rattle.lrat_text.specs.Reading.{words_in}
use Rattle.lrat_text.specs.Parts.{zeros_before}
use Rattle.lrat_text.proofs.PlaceLemmas.{read-misfit, read-more, IsBadNumber-weaker}
use Rattle.lrat_text.proofs.parts.Parts.read.Goals as goal

pub loop-word-preserved : goal.loop-word-preserved
loop-word-preserved c =
    read-more (zeros_before c.args.place) (words_in c.args.line.now) _ _ c.in_ok-number.number _ _
    (sym c.number_in.ensures ∙ c.in_ok-number.ensures.ok_part) c.in_ok-add.ensures.ok
    (rw c.in-Some.ensures.steps at c.loop-word.invariant)

pub returns-in_err-add-clause-err : goal.returns-in_err-add-clause-err
returns-in_err-add-clause-err c =
    let f = c.from_residual-in_err-add in
    let p = err_from_is_err_and f.result f.ensures.1 in
    let number = sym c.number_in.ensures ∙ c.in_ok-number.ensures.ok_part in
    let so_far = rw c.in-Some.ensures.steps at c.loop-word.invariant in
    rw (p.1, p.2)
    (IsBadNumber-weaker c.args.at c.in_err-add.field-0.0
    (λ wrong. read-misfit (zeros_before c.args.place)
    (words_in c.args.line.now) _ _ c.in_ok-number.number _ number wrong so_far)
    c.in_err-add.ensures.err)
