use Rattle.std.proofs.Common.{sym, subst}
use Rattle.board_lock.specs.Pass.{SplitOff, Held, held_of}
use Rattle.board_lock.proofs.PassLemmas.{split_off}
use Rattle.board_lock.proofs.pass.Pass.split.Goals as goal

pub returns-clause-ok : goal.returns-clause-ok
returns-clause-ok c =
    let v = c.self.inside in
    let cut = c.split-number in
    subst (λ (h : Held). SplitOff c.args.turns c.args.self.now (held_of cut.new.place.table_id cut.new.place.me.0) h) (sym c.of.ensures)
    (split_off v.place.table_id cut.new.place.table_id cut.result.1.table_id v.place.me.0 cut.result.0 c.args.turns cut.new.place.me
    cut.result.1.me c.args.self.now (sym c.self.view_is) cut.ensures.kept cut.ensures.cut cut.ensures.same.0 cut.ensures.same.1)
