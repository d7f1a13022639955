-- The entries so far have their slots, and the others among them are counted.
use Rattle.std.proofs.Common.{◌≡◌, ◌≤◌, map, take}
use Rattle.std.specs.List.{AllByRecursion}
use Rattle.std.specs.Arc.{arc_value}
use Rattle.lemma_book.specs.MergeTable.{IsWidened}
use Rattle.lemma_book.specs.Shelf.{key_of}
use Rattle.lemma_book.specs.Index.{HasSlotFor, others_in}
use Rattle.lemma_book.proofs.index.Index.make_room_for.Given as goal

abbrev pub invariant-loop-entry : goal.invariant-loop-entry
invariant-loop-entry l = record {
  slots : AllByRecursion (HasSlotFor l.self.merges) (map key_of (map arc_value (take l.entry-index l.entries)));
  count : l.others ≡ others_in (map key_of (map arc_value (take l.entry-index l.entries)));
  few : l.others ≤ l.entry-index;
  merges : IsWidened l.initial.self.merges l.self.merges;
  same : l.self.others ≡ l.initial.self.others;
}
