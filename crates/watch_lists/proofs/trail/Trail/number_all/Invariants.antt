use Rattle.std.proofs.Common.{◌≡◌, [], take}
use Rattle.watch_lists.specs.Trail.{trail_of}
use Rattle.watch_lists.proofs.trail.Trail.number_all.Given as goal

abbrev pub invariant-loop-node : goal.invariant-loop-node
invariant-loop-node l = l.self ≡ trail_of (record { nodes = take l.node-index l.nodes; clauses = [] })
