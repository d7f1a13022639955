-- An entry about the task is offered, or its claim is settled.
use Rattle.std.proofs.Common.{sym, subst, ap, ◌∙◌}
use Rattle.lemma_book.specs.declared.refused.Offered.TheVariants.{Already}
use Rattle.lemma_book.specs.Entry.{Entries, place_on}
use Rattle.cone_query.specs.Query.{SeesAll}
use Rattle.board_lock.specs.Pass.{OfferedOne}
use Rattle.sweep_workers.specs.Asked.{question_in, subject_in}
use Rattle.sweep_workers.specs.Answered.{OpensTwoRoots}
use Rattle.sweep_workers.specs.Working.{Told}
use Rattle.sweep_workers.proofs.AnswerLemmas.{on-ok}
use Rattle.sweep_workers.proofs.WorkLemmas.{claim-opens, claim-settled, claim-sees, told-of}
use Rattle.sweep_workers.proofs.work.tell.Goals as goal

pub note_settled-requires-clause-settled : goal.note_settled-requires-clause-settled
note_settled-requires-clause-settled g c =
    let known = c.args.pass.now.known in
    claim-settled known.entries c.claim_of-claim.result (subject_in c.args.asked) c.in-Some.place c.claim_of-claim.ensures.on
    (sym c.in-Some.is ∙ c.place_on.ensures ∙ ap (λ (b : Entries). place_on b.entries c.subject_in.result) c.seen.ensures
    ∙ ap (place_on known.entries) c.subject_in.ensures)

pub returns-in-Some-clause-told : goal.returns-in-Some-clause-told
returns-in-Some-clause-told g c =
    on-ok c.note_settled.result (OfferedOne c.claim_of-claim.result c.args.pass.now c.note_settled.new.self (Already c.in-Some.place))
    (Told c.args.net.now (question_in c.args.asked) c.args.pass.now c.note_settled.new.self) c.note_settled.ensures.ok
    (λ offered. told-of c.args.net.now (question_in c.args.asked) c.args.pass.now c.note_settled.new.self c.claim_of-claim.result
    (Already c.in-Some.place) c.claim_of-claim.ensures.about
    (claim-sees c.args.pass.now.known c.claim_of-claim.result c.claim_of-claim.ensures.equal)
    (claim-opens c.args.net.now c.args.pass.now.known.entries c.claim_of-claim.result c.claim_of-claim.ensures.equal) offered)

pub answer-requires-clause-open : goal.answer-requires-clause-open
answer-requires-clause-open g c κs lives =
    ap (λ (b : Entries). place_on b.entries (subject_in c.args.asked)) (c.seen-in-None.ensures ∙ sym c.seen.ensures)
    ∙ ap (place_on c.seen.result.now.entries) (sym c.subject_in.ensures) ∙ sym c.place_on.ensures ∙ c.in-None.is

pub returns-in-Ok-clause-told : goal.returns-in-Ok-clause-told
returns-in-Ok-clause-told g c =
    told-of c.args.net.now (question_in c.args.asked) c.args.pass.now c.offer.new.self c.in_ok-entry-in-None.entry c.in-Ok._offered
    c.in_ok-entry-in-None.ensures.about
    (subst (λ (b : Entries). SeesAll b c.in_ok-entry-in-None.entry) c.seen-in-None.ensures c.in_ok-entry-in-None.ensures.seen)
    (subst (λ (b : Entries). OpensTwoRoots c.args.net.now b.entries c.in_ok-entry-in-None.entry) c.seen-in-None.ensures
    c.in_ok-entry-in-None.ensures.roots) c.in-Ok.ensures.ok
