-- Steps hold where those clauses hold that they stand on, so entry after entry is true.
use Rattle.lemma_book.proofs.TrueEntries.{legal-true}
use Rattle.lemma_book.proofs.laws.entries_are_true.Goals as goal

pub returns : goal.returns
returns c = legal-true c.args.net.now c.is_net.ensures c.steps_hold.ensures c.args.book.now c.requires
