-- The values so far.
use Rattle.std.proofs.Common.{◌≡◌, take}
use Rattle.watch_lists.specs.Trail.{lits_of}
use Rattle.solver_watch.proofs.engine.values.Given as goal

abbrev pub invariant-loop-put : goal.invariant-loop-put
invariant-loop-put l = l.lits.items ≡ lits_of (take l.put-index l.puts)
