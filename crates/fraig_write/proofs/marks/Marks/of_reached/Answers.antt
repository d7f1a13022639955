-- When all gates are passed, what is marked is what is reached.
use Rattle.fraig_write.proofs.MarkLemmas.{walked-reached}
use Rattle.fraig_write.proofs.marks.Marks.of_reached.Goals as goal

pub returns-clause-reached : goal.returns-clause-reached
returns-clause-reached c = walked-reached c.args.net.now c.requires.net c.args.book.now c.requires.legal c.mark_fanins.new.self c.mark_fanins.ensures
