-- A walk that begins anew begins at the literals' nodes.
use Rattle.lemma_book.specs.Cone.{nodes_in}
use Rattle.flat_cones.proofs.WalkLemmas.{fresh-walk, begins-at}
use Rattle.flat_cones.proofs.cones.Cones.cone.Goals as goal

pub find_all-requires-clause-walk : goal.find_all-requires-clause-walk
find_all-requires-clause-walk c = fresh-walk c.args.net.now c.begin.new.self c.begin.ensures

pub gather-requires-clause-walk : goal.gather-requires-clause-walk
gather-requires-clause-walk c = c.in_ok-find_all.ensures.walk

pub returns-clause-cone : goal.returns-clause-cone
returns-clause-cone c =
    c.in_ok-gather.ensures.cone (nodes_in c.args.lits.now)
    (begins-at c.args.net.now c.begin.new.self c.find_all.new.self (nodes_in c.args.lits.now) c.begin.ensures c.in_ok-find_all.ensures)

pub returns-clause-numbered : goal.returns-clause-numbered
returns-clause-numbered c = c.in_ok-gather.ensures.numbered
