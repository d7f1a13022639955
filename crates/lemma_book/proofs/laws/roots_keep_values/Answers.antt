-- Each step to a root goes to a literal of the same value.
use Rattle.lemma_book.proofs.TrueEntries.{root-value}
use Rattle.lemma_book.proofs.laws.roots_keep_values.Goals as goal

pub returns : goal.returns
returns c = root-value c.args.net.now c.args.book.now.entries c.entries_are_true.ensures
