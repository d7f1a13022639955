-- What the book settles stays, and a good answer is put last.
use Rattle.std.proofs.Common.{ℕ, sym, subst, ap, ◌∙◌}
use Rattle.lemma_book.specs.Entry.{first_entries, place_on}
use Rattle.lemma_book.specs.Good.{IsGood}
use Rattle.sweep_workers.specs.Asked.{question_in}
use Rattle.sweep_workers.proofs.AloneLemmas.{answered-added, answered-known, good-whole}
use Rattle.sweep_workers.proofs.alone.answer_in.Goals as goal

pub returns-in-Some : goal.returns-in-Some
returns-in-Some g c =
    answered-known c.args.net.now c.args.book.now c.args.asked c.in-Some._place c.requires.legal
    (sym (sym c.in-Some.is ∙ c.place_on.ensures ∙ ap (place_on c.args.book.now.entries) c.subject_in.ensures))

pub answer-requires-clause-open : goal.answer-requires-clause-open
answer-requires-clause-open g c κs lives =
    ap (place_on c.args.book.now.entries) (sym c.subject_in.ensures) ∙ sym c.place_on.ensures ∙ c.in-None.is

pub append-requires-clause-good : goal.append-requires-clause-good
append-requires-clause-good g c =
    subst (λ (n : ℕ). IsGood c.args.net.now (first_entries n c.args.book.now) c.in_ok-entry-in-None.entry) (sym c.len-known.ensures)
    (good-whole c.args.net.now c.args.book.now c.in_ok-entry-in-None.entry c.in_ok-entry-in-None.ensures.good)

pub returns-in-Ok : goal.returns-in-Ok
returns-in-Ok g c =
    answered-added c.args.net.now c.args.book.now c.append.new.self (question_in c.args.asked) c.in_ok-entry-in-None.entry c.requires.legal
    c.in_ok-entry-in-None.ensures.about c.in_ok-entry-in-None.ensures.good c.in_ok-entry-in-None.ensures.seen c.in_ok-entry-in-None.ensures.roots
    c.in-Ok.ensures.after
