-- One entry more has its slot, or is counted.
use Rattle.std.proofs.Common.{◌≡◌, ◌∙◌, ◌+◌, ◌++◌, ◌∷◌, [], List, map, take, ap, sym, subst, arith}
use Rattle.std.proofs.lemmas.List.{take_more, map-append}
use Rattle.std.specs.List.{AllByRecursion}
use Rattle.std.specs.Arc.{arc_value}
use Rattle.std.specs.Prelude.{Option}
use Rattle.lemma_book.specs.declared.entry.Entry.{Entry}
use Rattle.lemma_book.specs.declared.index.Key.{Key}
use Rattle.lemma_book.specs.Shelf.{key_of}
use Rattle.lemma_book.specs.Index.{HasSlotFor, others_in}
use Rattle.lemma_book.proofs.KeyRoom.{keys-next, slots-last, slots-wider, others-last, few-others, widened-twice}
use Rattle.lemma_book.proofs.index.Index.make_room_for.Goals as goal

pub loop-entry-preserved : goal.loop-entry-preserved
loop-entry-preserved c =
    let i = c.loop-entry.entry-index in
    let all = c.args.entries.now in
    let entry = arc_value c.entry-item.result in
    let key = c.key.result in
    let before : List Entry = map arc_value (take i all) in
    let more : map arc_value (take (i + 1) all) ≡ before ++ entry ∷ [] =
    ap (map arc_value) (take_more all i c.entry-item.result c.loop-entry-test.true)
    ∙ map-append arc_value (take i all) _
    ∙ ap (λ (e : Entry). before ++ e ∷ []) (ap arc_value (sym c.entry-item.is)) in
    let keys : map key_of (map arc_value (take (i + 1) all)) ≡ map key_of before ++ key ∷ [] =
    keys-next before (map arc_value (take (i + 1) all)) entry key more (c.key.ensures ∙ ap key_of c.deref.ensures) in
    let old = c.loop-entry.self.merges in
    let new = c.make_slot.new.self.merges in
    record {
      slots = subst (λ (ks : List (Option Key)). AllByRecursion (HasSlotFor new) ks) (sym keys)
          (slots-last new (map key_of before) key (slots-wider old new c.make_slot.ensures.merges.slots (map key_of before) c.loop-entry.invariant.slots) c.in_ok-others.ensures.slot);
      count = omega (arith, ap others_in keys, others-last (map key_of before) key, c.in_ok-others.ensures.count, c.loop-entry.invariant.count);
      few = omega (arith, few-others key, c.in_ok-others.ensures.count, c.loop-entry.invariant.few);
      merges = widened-twice c.args.self.now.merges old new c.loop-entry.invariant.merges c.make_slot.ensures.merges;
      same = c.make_slot.ensures.others ∙ c.loop-entry.invariant.same;
    }
