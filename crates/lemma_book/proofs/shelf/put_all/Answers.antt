-- There is room for the others when one is put.
use Rattle.std.proofs.Common.{◌≡◌, ◌∷◌, List, map, ap, subst, arith}
use Rattle.std.proofs.lemmas.Grind.{common_steps}
use Rattle.std.specs.Arc.{arc_value}
use Rattle.lemma_book.specs.declared.entry.Entry.{Entry}
use Rattle.lemma_book.specs.Shelf.{key_of}
use Rattle.lemma_book.specs.Index.{HasRoom}
use Rattle.lemma_book.proofs.KeyRoom.{room-left}
use Rattle.lemma_book.proofs.shelf.put_all.Goals as goal

pub loop-entry-preserved : goal.loop-entry-preserved
loop-entry-preserved c =
    let rest : List Entry = map arc_value c.pop_front.new.self.items in
    let popped : map arc_value c.loop-entry.more.items ≡ arc_value c.in-Some.entry ∷ rest = ap (map arc_value) c.in-Some.ensures.items in
    record {
      index = c.put.ensures.index;
      room = grind (arith, common_steps);
      few = grind (arith, common_steps);
      keys = room-left c.loop-entry.index c.put.new.index (key_of (arc_value c.in-Some.entry)) (map key_of rest)
          (subst (λ (es : List Entry). HasRoom c.loop-entry.index (map key_of es)) popped c.loop-entry.invariant.keys) c.put.ensures.taken;
      whole = grind (arith, common_steps);
    }
