-- What an index of names finds when one more name joins it.
use Rattle.std.proofs.Common.{◌≡◌, ℕ, zero, suc, ◌+◌, ◌*◌, ◌%◌, ◌^◌, ◌<◌, Bool, true, false, cond, Option, None, Some, List, [], ◌∷◌, length, take, get_or, refl, sym, ap, ◌∙◌, subst, arith, length-take}
use Rattle.std.specs.Borrow.{Bor}
use Rattle.std.specs.BTreeMap.{BTreeMap, get_by, is_at, UpdatesBy}
use Rattle.std.specs.Cmp.Lexicographic.{slice_cmp}
use Rattle.std.specs.Map.{lookup, IsKeyTest, AreApart, KeepsOthers}
use Rattle.std.specs.Ordering.{nat_cmp, ordering_then, is_eq, eq_by_cmp}
use Rattle.std.specs.declared.cmp.Ordering.{Ordering}
use Rattle.std.specs.declared.cmp.Ordering.TheVariants.{Less, Equal, Greater}
use Rattle.std.specs.Option.{option_map, is_some}
use Rattle.std.specs.Str.{bytes_eq}
use Rattle.std.proofs.lemmas.Bool.{false≢true}
use Rattle.std.proofs.lemmas.List.Sums.{fold_more}
use Rattle.std.proofs.lemmas.Map.Lookups.{exact_bytes, exact_unsigned}
use Rattle.std.proofs.lemmas.Slice.Eq.{bytes_eq-Decides}
use Rattle.std.proofs.lemmas.Option.{slice_get-get_or}
use Rattle.lits.proofs.Facts.{take_next}
use Rattle.symbol_names.specs.NameList.{name_at}
use Rattle.netlist.specs.ByName.{same_name, place_named, has_name, is_doubled}
use Rattle.netlist.specs.NameIndex.{number, with_digit, key_order, IsIndex}
use Rattle.netlist.proofs.PlaceLemmas.{or_place, place_of-append, is_some-place}

-- the name at a place
pub name_at-get_or : (names : List (Option (List ℕ))) (k : ℕ) → name_at names k ≡ get_or names k None
name_at-get_or [] k = refl
name_at-get_or (x ∷ xs) zero = refl
name_at-get_or (x ∷ xs) (suc k) = name_at-get_or xs k

-- two names of the same bytes are one
pub bytes_eq-same : (xs ys : List ℕ) → bytes_eq xs ys ≡ true → xs ≡ ys
bytes_eq-same xs ys e = (bytes_eq-Decides xs ys).0 e

pub bytes_eq-self : (xs : List ℕ) → bytes_eq xs xs ≡ true
bytes_eq-self xs = (bytes_eq-Decides xs xs).1 refl

pub bytes_eq-swap : (xs ys : List ℕ) → bytes_eq xs ys ≡ bytes_eq ys xs
bytes_eq-swap xs ys = go (bytes_eq xs ys) (bytes_eq ys xs) refl refl
  where
    go : (a b : Bool) → bytes_eq xs ys ≡ a → bytes_eq ys xs ≡ b → bytes_eq xs ys ≡ bytes_eq ys xs
    go true b e f = let same = bytes_eq-same xs ys e in rw same refl
    go false true e f = let same = bytes_eq-same ys xs f in rw same refl
    go false false e f = e ∙ sym f

-- ---- keys

pub number-none : number [] ≡ 0
unfolding number
number-none = refl

pub number-next : (name : List ℕ) (k : ℕ) → k < length name → number (take (k + 1) name) ≡ with_digit (number (take k name)) (get_or name k 0)
unfolding number
number-next name k below = fold_more with_digit 0 name k 0 below

pub with_digit-is : (n byte : ℕ) → with_digit n byte ≡ (n * 257 % 2 ^ 64 + byte) % 2 ^ 64
unfolding with_digit
with_digit-is n byte = refl

abbrev pub key_cmp : ℕ × Bor (List ℕ) → ℕ × Bor (List ℕ) → Ordering
key_cmp x y = ordering_then (nat_cmp x.0 y.0) (slice_cmp nat_cmp x.1.now y.1.now)

-- how a name of this number compares to a key
abbrev pub key_at : ℕ → List ℕ → ℕ × Bor (List ℕ) → Ordering
key_at n name key = ordering_then (nat_cmp n key.0) (slice_cmp nat_cmp name key.1.now)

pub found-at : (places : BTreeMap (ℕ × Bor (List ℕ)) ℕ) (n : ℕ) (name : List ℕ) → n ≡ number name → get_by (key_at n name) places ≡ get_by (key_order name) places
found-at places n name e = ap (λ (m : ℕ). get_by (key_at m name) places) e

-- the key that a name finds has its number and its bytes
key-is : (name : List ℕ) (key : ℕ × Bor (List ℕ)) → is_at (key_order name) key ≡ true → (number name ≡ key.0) × (name ≡ key.1.now)
key-is name key e = go (nat_cmp (number name) key.0) (slice_cmp nat_cmp name key.1.now) refl refl e
  where
    go : (p q : Ordering) → nat_cmp (number name) key.0 ≡ p → slice_cmp nat_cmp name key.1.now ≡ q → is_eq (ordering_then p q) ≡ true
        → (number name ≡ key.0) × (name ≡ key.1.now)
    go Less q f g h = absurd (false≢true h)
    go Greater q f g h = absurd (false≢true h)
    go Equal Less f g h = absurd (false≢true h)
    go Equal Greater f g h = absurd (false≢true h)
    go Equal Equal f g h = (exact_unsigned (number name) key.0 f, exact_bytes name key.1.now g)

key-test : (name : List ℕ) → IsKeyTest (eq_by_cmp key_cmp) (is_at (key_order name))
key-test name x y e =
    let is = key-is name x e in
    ap (λ (n : ℕ). is_eq (ordering_then (nat_cmp n y.0) (slice_cmp nat_cmp name y.1.now))) is.0
    ∙ ap (λ (bs : List ℕ). is_eq (ordering_then (nat_cmp x.0 y.0) (slice_cmp nat_cmp bs y.1.now))) is.1

key-apart : (bytes name : List ℕ) → bytes_eq bytes name ≡ false → AreApart (is_at (key_order bytes)) (is_at (key_order name))
key-apart bytes name apart key e = go (is_at (key_order name) key) refl
  where
    go : (b : Bool) → is_at (key_order name) key ≡ b → is_at (key_order name) key ≡ false
    go false f = f
    go true f =
        let same : bytes ≡ name = (key-is bytes key e).1 ∙ sym (key-is name key f).1 in
        absurd (false≢true (sym apart ∙ ap (λ (xs : List ℕ). bytes_eq xs name) same ∙ bytes_eq-self name))

-- another name finds what it found before
others-kept : (bytes name : List ℕ) (old new : List ((ℕ × Bor (List ℕ)) × ℕ)) → bytes_eq bytes name ≡ false
    → KeepsOthers (eq_by_cmp key_cmp) (is_at (key_order bytes)) old new → lookup (is_at (key_order name)) new ≡ lookup (is_at (key_order name)) old
unfolding KeepsOthers
others-kept bytes name old new apart kept = kept (is_at (key_order name)) (key-test name) (key-apart bytes name apart)

-- what a name finds once the index has something at these bytes
index-updates : (bytes : List ℕ) (old new : BTreeMap (ℕ × Bor (List ℕ)) ℕ) (w : Option ℕ) → UpdatesBy key_cmp (key_order bytes) old new w
    → (name : List ℕ) → get_by (key_order name) new ≡ cond (bytes_eq bytes name) w (get_by (key_order name) old)
index-updates bytes old new w updates name = go (bytes_eq bytes name) refl
  where
    go : (b : Bool) → bytes_eq bytes name ≡ b → get_by (key_order name) new ≡ cond b w (get_by (key_order name) old)
    go true e = ap (λ (bs : List ℕ). get_by (key_order bs) new) (sym (bytes_eq-same bytes name e)) ∙ updates.1
    go false e = others-kept bytes name old.entries new.entries e updates.3

module _ (names : List (Option (List ℕ))) (k : ℕ) (below : k < length names) where
  -- the place of a name among one more
  place-next : (name : Option (List ℕ)) → place_named (take (k + 1) names) name
      ≡ or_place (place_named (take k names) name) (option_map (λ j. k + j) (place_named (name_at names k ∷ []) name))
  place-next name =
      let whole = take_next names k (get_or names k None) (slice_get-get_or names k None below) in
      let count : length (take k names) ≡ k = omega (arith, length-take k names) in
      rw (whole, name_at-get_or names k)
      (place_of-append (same_name name) (take k names) (get_or names k None ∷ [])
      ∙ ap (λ (n : ℕ). or_place (place_named (take k names) name) (option_map (λ j. n + j) (place_named (get_or names k None ∷ []) name))) count)

  -- a place without a name
  pub index-unnamed : (places : BTreeMap (ℕ × Bor (List ℕ)) ℕ) → name_at names k ≡ None → IsIndex places (take k names) → IsIndex places (take (k + 1) names)
  index-unnamed places none is = record {
    finds = λ name. is.finds name ∙ sym (place-next (Some name) ∙ rw none (plain (place_named (take k names) (Some name))));
  }
    where
      plain : (o : Option ℕ) → or_place o None ≡ o
      plain None = refl
      plain (Some j) = refl

  -- a new name
  pub index-next : (old new : BTreeMap (ℕ × Bor (List ℕ)) ℕ) (n : ℕ) (bytes : List ℕ) → n ≡ number bytes → name_at names k ≡ Some bytes
      → get_by (key_at n bytes) old ≡ None
      → UpdatesBy key_cmp (key_at n bytes) old new (Some k)
      → IsIndex old (take k names) → IsIndex new (take (k + 1) names)
  index-next old new n bytes is_number is_name none changed is = record {
    finds = λ name. index-updates bytes old new (Some k) updates name
        ∙ sym (place-next (Some name) ∙ rw (is_name, ← is.finds name) (go name (bytes_eq bytes name) refl));
  }
    where
      fresh : get_by (key_order bytes) old ≡ None
      fresh = sym (found-at old n bytes is_number) ∙ none

      updates : UpdatesBy key_cmp (key_order bytes) old new (Some k)
      updates = subst (λ (m : ℕ). UpdatesBy key_cmp (key_at m bytes) old new (Some k)) is_number changed

      go : (name : List ℕ) (b : Bool) → bytes_eq bytes name ≡ b
          → or_place (get_by (key_order name) old) (option_map (λ j. k + j) (cond (bytes_eq name bytes) (Some 0) None))
          ≡ cond b (Some k) (get_by (key_order name) old)
      go name true e =
          let same : bytes ≡ name = bytes_eq-same bytes name e in
          let last : k + 0 ≡ k = omega arith in
          rw (bytes_eq-swap name bytes, e, ← same, fresh) (ap Some last)
      go name false e = rw (bytes_eq-swap name bytes, e) (plain (get_by (key_order name) old))
        where
          plain : (o : Option ℕ) → or_place o None ≡ o
          plain None = refl
          plain (Some j) = refl

-- the index finds the name of a place among the earlier ones exactly if it is a double
pub doubled-found : (places : BTreeMap (ℕ × Bor (List ℕ)) ℕ) (names : List (Option (List ℕ))) (k : ℕ) (bytes : List ℕ) → name_at names k ≡ Some bytes
    → IsIndex places (take k names) → is_doubled names k ≡ is_some (get_by (key_order bytes) places)
doubled-found places names k bytes is_name is =
    rw (is_name, is.finds bytes) (sym (is_some-place (same_name (Some bytes)) (take k names)))

-- a place without a name is no double
pub doubled-unnamed : (names : List (Option (List ℕ))) (k : ℕ) → name_at names k ≡ None → is_doubled names k ≡ false
doubled-unnamed names k none = rw none (go (take k names))
  where
    go : (xs : List (Option (List ℕ))) → has_name xs None ≡ false
    go [] = refl
    go (x ∷ xs) = go xs

-- without a name there is no place
pub place-unnamed : (names : List (Option (List ℕ))) → place_named names None ≡ None
place-unnamed [] = refl
place-unnamed (x ∷ xs) = rw (place-unnamed xs) refl
