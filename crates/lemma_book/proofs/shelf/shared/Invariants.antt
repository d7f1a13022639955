-- The entries so far are shared.
use Rattle.std.proofs.Common.{◌≡◌, map, take}
use Rattle.std.specs.Arc.{arc_value}
use Rattle.lemma_book.proofs.shelf.shared.Given as goal

abbrev pub invariant-loop-entry : goal.invariant-loop-entry
invariant-loop-entry l = map arc_value l.all.items ≡ map arc_value (take l.entry-index l.entries)
