-- The clauses of the nodes so far are gathered.
use Rattle.std.proofs.Common.{◌≡◌, map, flat_map, take}
use Rattle.std.specs.Map.Iter.{deref}
use Rattle.lemma_book.specs.Cone.{named_clauses}
use Rattle.lemma_book.proofs.cones.clauses_found.Given as goal

abbrev pub invariant-loop-node : goal.invariant-loop-node
invariant-loop-node l = l.clauses.items ≡ flat_map (named_clauses l.net (take l.seen l.book.entries)) (map deref l.yielded)
