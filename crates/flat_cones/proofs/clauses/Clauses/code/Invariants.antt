-- The codes of the literals so far, whose nodes are numbered.
use Rattle.std.proofs.Common.{take}
use Rattle.lemma_book.specs.Cone.{nodes_in}
use Rattle.flat_cones.specs.Numbered.{Takes, AreCodes}
use Rattle.flat_cones.proofs.clauses.Clauses.code.Given as goal

abbrev pub invariant-loop-place : goal.invariant-loop-place
invariant-loop-place l = Takes l.net l.fn.self.base (nodes_in (take l.place l.lits)) l.spots l.self.base
    × AreCodes l.self.base.nodes (take l.place l.lits) l.self.codes.items
