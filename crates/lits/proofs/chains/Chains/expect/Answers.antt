use Rattle.lits.proofs.IndexLemmas.{index-push}
use Rattle.lits.proofs.chains.Chains.expect.Goals as goal

pub returns-in_ok-add-clause-ok : goal.returns-in_ok-add-clause-ok
returns-in_ok-add-clause-ok g c many =
    index-push _ _ _ c.args.next _ _ c.in_ok-make_room.ensures.room (rw c.code.ensures at c.in_ok-add.ensures.links)
    (rw c.code.ensures at c.in_ok-add.ensures.heads) c.in_ok-make_room.ensures.index
