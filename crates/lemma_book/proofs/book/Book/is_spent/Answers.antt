-- The index finds it.
use Rattle.std.proofs.Common.{◌∙◌, ap}
use Rattle.std.specs.Option.{is_some}
use Rattle.lemma_book.specs.Entry.{Entries, has_spent_on}
use Rattle.lemma_book.proofs.IndexLemmas.{spent-found}
use Rattle.lemma_book.proofs.book.Book.is_spent.Goals as goal

pub returns : goal.returns
returns c =
    c.is_some.ensures ∙ ap is_some c.number.ensures ∙ spent-found c.self.inside.shelf c.args.node c.args.lit
    ∙ ap (λ (b : Entries). has_spent_on b.entries c.args.node c.args.lit) c.self.view_is
