-- After the last round all entries are shared.
use Rattle.std.proofs.Common.{◌∙◌, map, ap}
use Rattle.std.proofs.lemmas.List.{take_all}
use Rattle.std.specs.Arc.{arc_value}
use Rattle.lemma_book.proofs.shelf.shared.Goals as goal

pub returns : goal.returns
returns c = c.loop-entry.invariant ∙ ap (map arc_value) (take_all c.loop-entry.entry-index c.args.entries.now c.loop-entry-test.false)
