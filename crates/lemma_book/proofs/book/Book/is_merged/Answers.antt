-- The index finds its merge.
use Rattle.std.proofs.Common.{◌∙◌, ap}
use Rattle.std.specs.Option.{is_some}
use Rattle.lemma_book.proofs.MergedNodes.{is_some-merge}
use Rattle.lemma_book.proofs.book.Book.is_merged.Goals as goal

pub returns : goal.returns
returns c = c.is_some.ensures ∙ ap is_some c.place_on.ensures ∙ is_some-merge c.args.self.now.entries c.args.node
