-- The clauses of the nodes so far.
use Rattle.std.proofs.Common.{◌≡◌, map, take}
use Rattle.std.specs.List.{flat_map}
use Rattle.flat_base.specs.Flat.{named_of}
use Rattle.lemma_book.specs.Cone.{named_clauses}
use Rattle.flat_cones.specs.Numbered.{IsNumbered}
use Rattle.flat_cones.specs.Walk.{node_by}
use Rattle.flat_cones.proofs.cones.fill.Given as goal

abbrev pub invariant-loop-place : goal.invariant-loop-place
invariant-loop-place l = (l.walk.found ≡ l.fn.walk.found)
    × (IsNumbered l.net l.walk.spots l.clauses.base
    × (named_of l.clauses.base
    ≡ flat_map (named_clauses l.net l.book.entries) (map (node_by l.net) (take l.place l.fn.walk.found.items))))
