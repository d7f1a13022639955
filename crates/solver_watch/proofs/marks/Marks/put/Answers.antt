use Rattle.solver_watch.proofs.MarkLemmas.{stamped}
use Rattle.solver_watch.proofs.marks.Marks.put.Goals as goal

pub returns : goal.returns
returns c = stamped c.self.inside.stamps.items c.self.inside.latest c.args.place c.args.self.now c.self.view_is
