use Rattle.std.proofs.Common.{◌≡◌, take}
use Rattle.watch_lists.specs.Trail.{trail_of}
use Rattle.watch_lists.proofs.trail.Trail.start.Given as goal

abbrev pub invariant-loop-number : goal.invariant-loop-number
invariant-loop-number l = l.self ≡ trail_of (record { nodes = l.base.nodes; clauses = take l.number l.base.clauses })
