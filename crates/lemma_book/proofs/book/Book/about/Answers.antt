-- The entry stands at the place that the index finds.
use Rattle.std.proofs.Common.{◌∙◌, sym, Some, None}
use Rattle.lemma_book.proofs.IndexLemmas.{about-at}
use Rattle.lemma_book.proofs.book.Book.about.Goals as goal

pub returns-in-Some : goal.returns-in-Some
returns-in-Some c =
    c.entry.ensures ∙ about-at c.args.self.now.entries c.args.output (Some c.in-Some.place) (sym c.in-Some.is ∙ c.place_on.ensures)

pub returns-in-None : goal.returns-in-None
returns-in-None c = about-at c.args.self.now.entries c.args.output None (sym c.in-None.is ∙ c.place_on.ensures)
