use Rattle.check_session.proofs.MeansLemmas.{means-finding}
use Rattle.check_session.proofs.laws.means.Goals as goal

pub returns : goal.returns
returns c =
    means-finding c.args.net.now c.args.book.now c.requires c.entries_are_true.ensures c.satisfiable_if_different.ensures
