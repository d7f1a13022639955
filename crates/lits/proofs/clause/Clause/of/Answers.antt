use Rattle.std.proofs.Common.{◌∙◌, sym, ap, arith}
use Rattle.std.proofs.lemmas.List.{take_all}
use Rattle.std.proofs.lemmas.Result.{err_from_is_err_and}
use Rattle.lits.specs.Clause.{firsts, has_pair}
use Rattle.lits.proofs.ClauseLemmas.{is_literal, kept-next, pair-next}
use Rattle.lits.proofs.clause.Clause.of.Goals as goal

pub returns-in_err-add-clause-kept : goal.returns-in_err-add-clause-kept
returns-in_err-add-clause-kept g c =
    let p = err_from_is_err_and c.from_residual-in_err-add.result c.from_residual-in_err-add.ensures.1 in rw p.1 tt

pub returns-in_err-add-clause-clause : goal.returns-in_err-add-clause-clause
returns-in_err-add-clause-clause g c =
    let p = err_from_is_err_and c.from_residual-in_err-add.result c.from_residual-in_err-add.ensures.1 in rw p.1 tt

pub returns-in_err-add-clause-tautology : goal.returns-in_err-add-clause-tautology
returns-in_err-add-clause-tautology g c =
    let laws = is_literal g.met.L.Eq.laws g.met.L.Literal.exact g.met.L.Literal.twice in
    let p = err_from_is_err_and c.from_residual-in_err-add.result c.from_residual-in_err-add.ensures.1 in
    rw (p.1, p.2) (λ t. pair-next laws _ _ _ _ (omega arith) c.lit-item.is c.loop-lit.invariant (c.in_err-add.ensures.pair t))

pub loop-lit-preserved : goal.loop-lit-preserved
loop-lit-preserved g c =
    let laws = is_literal g.met.L.Eq.laws g.met.L.Literal.exact g.met.L.Literal.twice in
    kept-next laws _ _ _ _ _ (omega arith) c.lit-item.is c.loop-lit.invariant c.in_ok-add.ensures.ok

pub invariant_of-result : goal.invariant_of-result
invariant_of-result g c = rw c.into_vec.ensures c.loop-lit.invariant.clause

pub returns-clause-kept : goal.returns-clause-kept
returns-clause-kept g c =
    let all = take_all c.loop-lit.lit-index c.args.lits.now c.loop-lit-test.false in
    c.into_vec.ensures ∙ c.loop-lit.invariant.first ∙ ap (firsts g.L.PartialEq.eq) all

pub returns-clause-clause : goal.returns-clause-clause
returns-clause-clause g c =
    let all = take_all c.loop-lit.lit-index c.args.lits.now c.loop-lit-test.false in
    sym (ap (has_pair g.L.PartialEq.eq g.L.Literal.opposite) all) ∙ c.loop-lit.invariant.apart
