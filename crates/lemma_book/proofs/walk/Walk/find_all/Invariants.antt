-- The nodes of the literals so far are found.
use Rattle.std.proofs.Common.{take}
use Rattle.lemma_book.specs.Cone.{nodes_in}
use Rattle.lemma_book.specs.Walk.{Finds}
use Rattle.lemma_book.proofs.walk.Walk.find_all.Given as goal

abbrev pub invariant-loop-lit : goal.invariant-loop-lit
invariant-loop-lit l = Finds l.net l.fn.self (nodes_in (take l.lit-index l.lits)) l.self
