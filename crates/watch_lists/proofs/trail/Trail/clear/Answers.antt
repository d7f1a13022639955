use Rattle.watch_lists.proofs.PutsLemmas.{whole-empty}
use Rattle.watch_lists.proofs.trail.Trail.clear.Goals as goal

pub invariant_of-self : goal.invariant_of-self
invariant_of-self c = whole-empty _ _ _ _ c.clear.ensures c.clear-2.ensures c.clear-3.ensures.items
