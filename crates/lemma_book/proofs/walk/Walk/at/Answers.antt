-- A walk that has found nothing finds the nodes.
use Rattle.lemma_book.specs.Cone.{nodes_in}
use Rattle.lemma_book.proofs.ReachLemmas.{begins-at}
use Rattle.lemma_book.proofs.walk.Walk.at.Goals as goal

pub returns : goal.returns
returns c =
    begins-at c.args.net.now (nodes_in c.args.lits.now) (record { found = c.new.result; pending = c.new-2.result }) c.find_all.new.self c.new.ensures.empty
    c.new-2.ensures.items c.in_ok-find_all.ensures
