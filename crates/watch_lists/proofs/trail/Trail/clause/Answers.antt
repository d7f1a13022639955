use Rattle.std.proofs.Common.{subst}
use Rattle.watch_lists.specs.Codes.{AreCodesOf}
use Rattle.watch_lists.specs.State.{codes_at}
use Rattle.watch_lists.specs.Trail.{TrailState, clause_at}
use Rattle.watch_lists.proofs.ReadLemmas.{clause-read}
use Rattle.watch_lists.proofs.trail.Trail.clause.Goals as goal

pub returns : goal.returns
returns c =
    rw c.get.ensures (subst (λ (t : TrailState). AreCodesOf t.nodes (clause_at t.clauses c.args.number) (codes_at c.self.inside.engine.clauses c.args.number)) c.self.view_is
    (clause-read c.self.invariant c.args.number))
