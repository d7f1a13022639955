use Rattle.solver_watch.proofs.WalkLemmas.{traced}
use Rattle.solver_watch.proofs.cut.Cut.resolve.Goals as goal

pub returns : goal.returns
returns c =
    traced c.args.trail.now c.args.place c.in-Some.by c.args.self.now c.mark_clause.new.self c.lits.ensures.trail c.requires.place
    (rw c.lits.ensures.puts at c.in-Some.is) c.in_ok-mark_clause.ensures
