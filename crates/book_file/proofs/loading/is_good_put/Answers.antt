use Rattle.std.proofs.Common.{refl, subst}
use Rattle.lemma_book.specs.declared.refused.Judgement.{Judgement}
use Rattle.lemma_book.specs.Fault.{IsJudgement}
use Rattle.book_file.proofs.LoadLemmas.{apart_bad, settled_bad}
use Rattle.book_file.proofs.loading.is_good_put.Goals as goal

pub returns-in-Settled-clause-ok : goal.returns-in-Settled-clause-ok
returns-in-Settled-clause-ok c = (
  settled_bad c.args.net.now c.args.book.now c.args.entry c.in-Settled.field-0
      (subst (λ (j : Judgement). IsJudgement c.args.net.now c.args.book.now c.args.entry j) c.in-Settled.is c.in_ok-judge.ensures),
  refl,
)

pub returns-in-NotApart-clause-ok : goal.returns-in-NotApart-clause-ok
returns-in-NotApart-clause-ok c = (
  apart_bad c.args.net.now c.args.book.now c.args.entry
      (subst (λ (j : Judgement). IsJudgement c.args.net.now c.args.book.now c.args.entry j) c.in-NotApart.is c.in_ok-judge.ensures),
  refl,
)
