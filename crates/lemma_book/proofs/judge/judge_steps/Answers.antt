-- What the steps show of each kind of entry.
use Rattle.std.proofs.Common.{List, None, Some, subst, sym}
use Rattle.lits.specs.declared.step.Step.{Step}
use Rattle.lemma_book.specs.declared.entry.Entry.{Entry}
use Rattle.lemma_book.specs.declared.refused.Fault.TheVariants as fault
use Rattle.lemma_book.specs.Good.{IsGood, NoStep, node_clause, out_clause}
use Rattle.lemma_book.specs.Judging.{IsFirstBad}
use Rattle.lemma_book.specs.Fault.{IsFreeBefore, IsFault}
use Rattle.lemma_book.proofs.Judged.{merge-bad, merge-good, out-bad, out-good}
use Rattle.lemma_book.proofs.judge.judge_steps.Goals as goal

pub returns-in-Some : goal.returns-in-Some
returns-in-Some c =
    let net = c.args.net.now in
    let book = c.args.book.now in
    subst (λ (e : Entry). IsFault net book e (fault.Step c.in-Some.k c.in-Some.bad)) (sym c.in-Merge.is)
    (merge-bad net book c.in-Merge.node c.in-Merge.lit c.in-Merge.steps c.in-Some.k c.in-Some.bad (subst (λ (e : Entry). IsFreeBefore net book e (NoStep 0)) c.in-Merge.is c.requires.free)
    (subst (λ (ss : List Step). IsFirstBad (node_clause net book.entries) ss (Some (c.in-Some.k, c.in-Some.bad))) c.as_slice.ensures
    (subst (IsFirstBad (node_clause net book.entries) c.as_slice.result.now) c.in-Some.is c.in_ok-k-in-Merge.ensures)))

pub returns-in-None : goal.returns-in-None
returns-in-None c =
    let net = c.args.net.now in
    let book = c.args.book.now in
    subst (λ (e : Entry). IsGood net book e) (sym c.in-Merge.is)
    (merge-good net book c.in-Merge.node c.in-Merge.lit c.in-Merge.steps (subst (λ (e : Entry). IsFreeBefore net book e (NoStep 0)) c.in-Merge.is c.requires.free)
    (subst (λ (ss : List Step). IsFirstBad (node_clause net book.entries) ss None) c.as_slice.ensures
    (subst (IsFirstBad (node_clause net book.entries) c.as_slice.result.now) c.in-None.is c.in_ok-k-in-Merge.ensures)))

pub returns-in-Some-2 : goal.returns-in-Some-2
returns-in-Some-2 c =
    let net = c.args.net.now in
    let book = c.args.book.now in
    subst (λ (e : Entry). IsFault net book e (fault.Step c.in-Some-2.k c.in-Some-2.bad)) (sym c.in-Out.is)
    (out-bad net book c.in-Out.output c.in-Out.steps c.in-Some-2.k c.in-Some-2.bad (subst (λ (e : Entry). IsFreeBefore net book e (NoStep 0)) c.in-Out.is c.requires.free)
    (subst (λ (ss : List Step). IsFirstBad (out_clause net book.entries) ss (Some (c.in-Some-2.k, c.in-Some-2.bad))) c.as_slice-in-Out.ensures
    (subst (IsFirstBad (out_clause net book.entries) c.as_slice-in-Out.result.now) c.in-Some-2.is c.in_ok-k-in-Out.ensures)))

pub returns-in-None-2 : goal.returns-in-None-2
returns-in-None-2 c =
    let net = c.args.net.now in
    let book = c.args.book.now in
    subst (λ (e : Entry). IsGood net book e) (sym c.in-Out.is)
    (out-good net book c.in-Out.output c.in-Out.steps (subst (λ (e : Entry). IsFreeBefore net book e (NoStep 0)) c.in-Out.is c.requires.free)
    (subst (λ (ss : List Step). IsFirstBad (out_clause net book.entries) ss None) c.as_slice-in-Out.ensures
    (subst (IsFirstBad (out_clause net book.entries) c.as_slice-in-Out.result.now) c.in-None-2.is c.in_ok-k-in-Out.ensures)))
