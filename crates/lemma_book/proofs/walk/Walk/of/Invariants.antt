-- What the walk keeps; fewer nodes are left that it can still visit.
use Rattle.std.proofs.Common.{◌+◌, ◌-◌, length, take}
use Rattle.netlist.specs.Miter.{variables_of}
use Rattle.lemma_book.specs.Cone.{nodes_in, next_of}
use Rattle.lemma_book.proofs.ReachLemmas.{IsUnderway}
use Rattle.lemma_book.proofs.walk.Walk.of.Given as goal

abbrev pub invariant-loop-node : goal.invariant-loop-node
invariant-loop-node l = IsUnderway l.net (next_of l.net (take l.fn.seen l.book.entries)) (nodes_in l.lits) l.walk

abbrev pub decreases-loop-node : goal.decreases-loop-node
decreases-loop-node l = (length (variables_of l.net) + 1 + length l.walk.pending.items) - length l.walk.found.entries
