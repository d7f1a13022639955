-- What an index of keys notes, and the room that is made in it for more of them.
use Rattle.std.proofs.Common.{◌≡◌, ℕ, ◌+◌, ◌≤◌, Bool, true, false, cond, Option, None, Some, List, [], ◌∷◌, ◌++◌, length, map, refl, sym, ap, ◌∙◌, arith}
use Rattle.std.specs.Prelude.{IfSome}
use Rattle.std.specs.Option.{option_map_or, option_or, is_some}
use Rattle.std.specs.List.{AllByRecursion}
use Rattle.lits.specs.declared.node.Side.{Side}
use Rattle.std.proofs.lemmas.List.{map-append}
use Rattle.lemma_book.specs.declared.entry.Entry.{Entry}
use Rattle.lemma_book.specs.declared.index.Key.{Key}
use Rattle.lemma_book.specs.declared.index.Index.{Index}
use Rattle.lemma_book.specs.MergeTable.{Table, slots_of, HasSlot, IsWidened}
use Rattle.lemma_book.specs.Shelf.{same_key, key_of}
use Rattle.lemma_book.specs.Index.{gate_of, HasSlotFor, others_of, others_in, HasRoom, TakesRoom}
use Rattle.lemma_book.proofs.IndexLemmas.{exact-key}

or_none : (o : Option ℕ) → o ≡ option_or o None
or_none None = refl
or_none (Some k) = refl

some_or : (o p : Option ℕ) → is_some o ≡ true → o ≡ option_or o p
some_or None p e = cc
some_or (Some k) p e = refl

none_or : (o : Option ℕ) → is_some o ≡ false → o ≡ None
none_or None e = refl
none_or (Some k) e = cc

-- a key that is there keeps its place
pub other-known : (o : Key → Option ℕ) (key : Key) (place : ℕ) → is_some (o key) ≡ true
    → (k : Key) → o k ≡ option_or (o k) (cond (same_key key k) (Some place) None)
other-known o key place known k = go (same_key key k) refl
  where
    go : (b : Bool) → same_key key k ≡ b → o k ≡ option_or (o k) (cond b (Some place) None)
    go false e = or_none (o k)
    go true e = some_or (o k) (Some place) (ap (λ (q : Key). is_some (o q)) (sym (exact-key key k e)) ∙ known)

-- a key that is new gets its place
pub other-new : (o n : Key → Option ℕ) (key : Key) (place : ℕ) → is_some (o key) ≡ false
    → ((k : Key) → n k ≡ cond (same_key key k) (Some place) (o k))
    → (k : Key) → n k ≡ option_or (o k) (cond (same_key key k) (Some place) None)
other-new o n key place unknown puts k = puts k ∙ go (same_key key k) refl
  where
    go : (b : Bool) → same_key key k ≡ b → cond b (Some place) (o k) ≡ option_or (o k) (cond b (Some place) None)
    go true e =
        sym (ap (λ (q : Option ℕ). option_or q (Some place)) (ap o (sym (exact-key key k e)) ∙ none_or (o key) unknown))
    go false e = or_none (o k)

-- a table that is widened twice
pub widened-twice : (t u v : Table) → IsWidened t u → IsWidened u v → IsWidened t v
widened-twice t u v e f = record {
  places = λ side var. f.places side var ∙ e.places side var;
  slots = λ side. omega (arith, e.slots side, f.slots side);
}

-- a gate keeps its slot
slot-wider : (t u : Table) → ((side : Side) → length (slots_of t side) ≤ length (slots_of u side)) → (key : Option Key) → HasSlotFor t key → HasSlotFor u key
slot-wider t u wide None slot = tt
slot-wider t u wide (Some k) slot = go (gate_of k) slot
  where
    go : (o : Option (Side × ℕ)) → IfSome o (λ g. HasSlot t g.0 g.1) → IfSome o (λ g. HasSlot u g.0 g.1)
    go None s = tt
    go (Some g) s = omega (arith, s, wide g.0)

pub slots-wider : (t u : Table) → ((side : Side) → length (slots_of t side) ≤ length (slots_of u side)) → (keys : List (Option Key))
    → AllByRecursion (HasSlotFor t) keys → AllByRecursion (HasSlotFor u) keys
slots-wider t u wide [] slots = tt
slots-wider t u wide (k ∷ ks) slots = (slot-wider t u wide k slots.0, slots-wider t u wide ks slots.1)

-- one key more
pub slots-last : (t : Table) (keys : List (Option Key)) (key : Option Key) → AllByRecursion (HasSlotFor t) keys → HasSlotFor t key
    → AllByRecursion (HasSlotFor t) (keys ++ key ∷ [])
slots-last t [] key slots slot = (slot, tt)
slots-last t (k ∷ ks) key slots slot = (slots.0, slots-last t ks key slots.1 slot)

pub others-last : (keys : List (Option Key)) (key : Option Key) → others_in (keys ++ key ∷ []) ≡ others_in keys + others_of key
others-last [] key = omega arith
others-last (k ∷ ks) key = omega (arith, others-last ks key)

-- a key takes the room of one at most
pub few-others : (key : Option Key) → others_of key ≤ 1
few-others None = omega arith
few-others (Some k) = go (gate_of k)
  where
    go : (o : Option (Side × ℕ)) → option_map_or (λ g. 0) o 1 ≤ 1
    go None = omega arith
    go (Some g) = omega arith

-- the keys of one entry more
pub keys-next : (before after : List Entry) (e : Entry) (key : Option Key) → after ≡ before ++ e ∷ [] → key ≡ key_of e
    → map key_of after ≡ map key_of before ++ key ∷ []
keys-next before after e key more is =
    ap (map key_of) more ∙ map-append key_of before (e ∷ []) ∙ ap (λ (k : Option Key). map key_of before ++ k ∷ []) (sym is)

-- the room that is left for the others
pub room-left : (old new : Index) (key : Option Key) (keys : List (Option Key)) → HasRoom old (key ∷ keys) → TakesRoom old key new → HasRoom new keys
room-left old new key keys room takes = record {
  slots = slots-wider old.merges new.merges takes.slots keys room.slots.1;
  spare_keys = omega (arith, room.spare_keys, takes.spare_keys);
}
