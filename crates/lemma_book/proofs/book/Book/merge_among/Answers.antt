-- The merge stands among the first entries, or behind them.
use Rattle.lemma_book.proofs.MergedNodes.{among-kept, among-cut, among-none}
use Rattle.lemma_book.proofs.book.Book.merge_among.Goals as goal

pub returns-then-place-seen : goal.returns-then-place-seen
returns-then-place-seen c =
    among-kept c.args.self.now.entries c.args.node c.args.seen c.merge_of.result c.merge_of.ensures (c.in-Some.place, c.in-Some.lit) c.in-Some.is
    c.if-place-seen.true

pub returns-else-place-seen : goal.returns-else-place-seen
returns-else-place-seen c =
    among-cut c.args.self.now.entries c.args.node c.args.seen c.merge_of.result c.merge_of.ensures (c.in-Some.place, c.in-Some.lit) c.in-Some.is
    c.if-place-seen.false

pub returns-in-None : goal.returns-in-None
returns-in-None c = among-none c.args.self.now.entries c.args.node c.args.seen c.merge_of.result c.merge_of.ensures c.in-None.is
