-- There is room for the entries that are left, and these are to be put last.
use Rattle.std.proofs.Common.{◌≡◌, ◌+◌, ◌≤◌, ◌++◌, length, map, vec_len}
use Rattle.std.specs.Prelude.{vec_capacity}
use Rattle.std.specs.Arc.{arc_value}
use Rattle.lemma_book.specs.Shelf.{key_of}
use Rattle.lemma_book.specs.Index.{IsIndex, HasRoom}
use Rattle.lemma_book.proofs.shelf.put_all.Given as goal

abbrev pub invariant-loop-entry : goal.invariant-loop-entry
invariant-loop-entry l = record {
  index : IsIndex (map arc_value l.entries.items) l.index;
  room : vec_len l.entries + length l.more.items ≤ vec_capacity l.entries;
  few : vec_len l.entries + length l.more.items ≤ 4294967295;
  keys : HasRoom l.index (map key_of (map arc_value l.more.items));
  whole : map arc_value (l.entries.items ++ l.more.items) ≡ map arc_value (l.initial.entries.items ++ l.initial.more.items);
}

abbrev pub decreases-loop-entry : goal.decreases-loop-entry
decreases-loop-entry l = length l.more.items
