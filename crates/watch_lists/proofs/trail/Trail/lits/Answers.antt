use Rattle.std.proofs.Common.{◌≤◌, ◌*◌, subst, length}
use Rattle.watch_lists.specs.Trail.{TrailState, IsTrail}
use Rattle.watch_lists.proofs.WholeLemmas.{whole-trail}
use Rattle.watch_lists.proofs.PutsLemmas.{puts-few}
use Rattle.watch_lists.proofs.trail.Trail.lits.Goals as goal

pub returns-clause-trail : goal.returns-clause-trail
returns-clause-trail c = subst (λ (t : TrailState). IsTrail t) c.self.view_is (whole-trail c.self.invariant)

pub returns-clause-room : goal.returns-clause-room
returns-clause-room c = subst (λ (t : TrailState). length t.puts ≤ 2 * length t.nodes) c.self.view_is (puts-few c.self.invariant)
