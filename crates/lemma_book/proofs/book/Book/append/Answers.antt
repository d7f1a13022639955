-- An entry that settles is behind those that were known; an entry that nothing settles is good over the whole book.
use Rattle.std.proofs.Common.{sym, subst}
use Rattle.lemma_book.specs.Book.{IsLegal}
use Rattle.lemma_book.proofs.LongerBooks.{answer-settled, legal-append}
use Rattle.lemma_book.proofs.book.Book.append.Goals as goal

pub returns-in-Some-clause-answer : goal.returns-in-Some-clause-answer
returns-in-Some-clause-answer c =
    answer-settled c.args.net.now c.args.self.now c.args.known c.args.entry c.requires.good c.in-Some.place (sym c.in-Some.ensures)

pub returns-in-Ok-clause-stays_legal : goal.returns-in-Ok-clause-stays_legal
returns-in-Ok-clause-stays_legal c =
    subst (IsLegal c.args.net.now) (sym c.in-Ok.ensures.ok)
    (legal-append c.args.net.now c.args.self.now c.args.known c.args.entry c.requires.good c.requires.legal (sym c.in-None.ensures))
