-- As for an entry that is handed over: one that settles is behind those that were known, and one that nothing settles is
-- good over the whole book.
use Rattle.std.proofs.Common.{◌≡◌, Option, sym, subst}
use Rattle.std.specs.Prelude.{IfSome}
use Rattle.lemma_book.specs.declared.entry.Entry.{Entry}
use Rattle.lemma_book.specs.Entry.{first_entries, with_last}
use Rattle.lemma_book.specs.Book.{IsLegal}
use Rattle.lemma_book.specs.Good.{IsGood}
use Rattle.lemma_book.proofs.LongerBooks.{answer-settled, legal-append}
use Rattle.lemma_book.proofs.book.Book.append_shared.Goals as goal

pub returns-in-Some-settled_at-clause-answer : goal.returns-in-Some-settled_at-clause-answer
returns-in-Some-settled_at-clause-answer c =
    let good = subst (λ (o : Option Entry). IfSome o (λ e. IsGood c.args.net.now (first_entries c.args.known c.args.self.now) e)) (sym c.in-Some.ensures) c.requires.good in
    rw (sym c.in-Some.ensures)
    (answer-settled c.args.net.now c.args.self.now c.args.known c.in-Some.entry.now good c.in-Some-settled_at.place (sym c.in-Some-settled_at.ensures))

pub returns-in_ok-push_shared-in-None-settled_at-clause-stays_legal :
    goal.returns-in_ok-push_shared-in-None-settled_at-clause-stays_legal
returns-in_ok-push_shared-in-None-settled_at-clause-stays_legal c =
    let good = subst (λ (o : Option Entry). IfSome o (λ e. IsGood c.args.net.now (first_entries c.args.known c.args.self.now) e)) (sym c.in-Some.ensures) c.requires.good in
    let put = subst (λ (o : Option Entry). IfSome o (λ e. c.push_shared.new.self ≡ with_last c.args.self.now e)) (sym c.in-Some.ensures) c.in_ok-push_shared-in-None-settled_at.ensures.ok in
    subst (IsLegal c.args.net.now) (sym put)
    (legal-append c.args.net.now c.args.self.now c.args.known c.in-Some.entry.now good c.requires.legal (sym c.in-None-settled_at.ensures))
