use Rattle.std.proofs.Common.{sym, ap, ◌∙◌}
use Rattle.board_lock.specs.Pass.{Post}
use Rattle.board_lock.proofs.Ends.{sums, whole_view, closes}
use Rattle.board_lock.proofs.board.Board.close.Goals as goal

pub close-history-requires-clause-sums : goal.close-history-requires-clause-sums
close-history-requires-clause-sums c = sums c.self.inside.lock.about

pub close-history-requires-clause-whole : goal.close-history-requires-clause-whole
close-history-requires-clause-whole c =
    let p = c.into_place.result in
    whole_view p.table_id p.me.0 c.args.pass c.into_place.ensures.held c.requires.whole

pub returns : goal.returns
returns c =
    let p = c.into_place in
    let i = c.into_parts-book.ensures in
    rw (i.book, c.of.ensures ∙ i.turns, i.missed, sym (ap (λ (b : Post). b.root) c.self.view_is))
    (closes c.self.inside.lock.about p.result.table_id p.result.me.0 _ _ c.args.pass p.ensures.held p.ensures.idle
    c.close-history.ensures)
