use Rattle.watch_lists.proofs.PutsLemmas.{whole-empty}
use Rattle.watch_lists.proofs.trail.Trail.new.Goals as goal

pub invariant_of-result : goal.invariant_of-result
invariant_of-result c = whole-empty _ _ _ _ c.new.ensures c.new-2.ensures c.new-3.ensures.items
