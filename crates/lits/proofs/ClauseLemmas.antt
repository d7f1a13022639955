-- How the clause of a growing list of literals grows.
use Rattle.std.proofs.Common.{◌≡◌, ℕ, ◌+◌, ◌<◌, length, take, drop, get_or, Bool, true, false, not, ◌&&◌, ◌||◌, List, [], ◌∷◌, ◌++◌, refl, sym, ap, ◌∙◌, subst}
use Rattle.std.specs.Prelude.{filter, if◌then◌else◌}
use Rattle.std.specs.Cmp.{IsEquivalence}
use Rattle.std.proofs.lemmas.List.{take_more, take-append-drop}
use Rattle.std.proofs.lemmas.List.Folds.{list_any-append}
use Rattle.std.proofs.lemmas.Map.Views.{any-filter_same}
use Rattle.std.proofs.Math.Bool.{or-true}
use Rattle.lits.specs.Clause.{has, firsts, no_repeat, has_pair, IsClause, Adds}

-- what the lemmas use of a literal's `==` and negation
pub record IsLiteral {L : Type 0} (eq : L → L → Bool) (opposite : L → L) : Type 0 where
  pub equivalence : IsEquivalence eq
  pub exact : (x y : L) → eq x y ≡ true → x ≡ y
  pub twice : (x : L) → opposite (opposite x) ≡ x

pub is_literal : {L : Type 0} {eq : L → L → Bool} {opposite : L → L} → IsEquivalence eq
    → ((x y : L) → eq x y ≡ true → x ≡ y) → ((x : L) → opposite (opposite x) ≡ x) → IsLiteral eq opposite
is_literal equivalence exact twice = record { equivalence = equivalence; exact = exact; twice = twice }

-- the literals seen so far have the clause kept
pub record IsKept {L : Type 0} (eq : L → L → Bool) (opposite : L → L) (seen kept : List L) : Type 0 where
  pub first : kept ≡ firsts eq seen
  pub apart : has_pair eq opposite seen ≡ false
  pub clause : IsClause eq opposite kept

module _ {L : Type 0} {eq : L → L → Bool} {opposite : L → L} (laws : IsLiteral eq opposite) where
  pub has-append : (xs ys : List L) (q : L) → has eq (xs ++ ys) q ≡ (has eq xs q || has eq ys q)
  has-append xs ys q = list_any-append (λ y. eq y q) xs ys

  -- x equals the negation of y exactly where y equals that of x
  pub eq-opposite : (x y : L) → eq x (opposite y) ≡ eq y (opposite x)
  eq-opposite x y = go (eq x (opposite y)) (eq y (opposite x)) refl refl
    where
      flipped : (a b : L) → eq a (opposite b) ≡ true → eq b (opposite a) ≡ true
      flipped a b e =
          let same : a ≡ opposite b = laws.exact a (opposite b) e in
          let back : opposite a ≡ b = ap opposite same ∙ laws.twice b in
          subst (λ (z : L). eq b z ≡ true) (sym back) (laws.equivalence.refl b)

      go : (p q : Bool) → eq x (opposite y) ≡ p → eq y (opposite x) ≡ q → p ≡ q
      go true true e f = refl
      go false false e f = refl
      go true false e f = let g = flipped x y e in cc
      go false true e f = let g = flipped y x f in cc

  -- what is left of a list without x has another q as before
  has-without : (x q : L) (ys : List L) → eq x q ≡ false → has eq (filter (λ y. not (eq x y)) ys) q ≡ has eq ys q
  has-without x q ys apart = any-filter_same (λ y. eq y q) (λ y. not (eq x y)) true kept ys
    where
      kept : (k : L) → eq k q ≡ true → not (eq x k) ≡ true
      kept k e = let same = laws.exact k q e in subst (λ (z : L). not (eq x z) ≡ true) (sym same) (ap not apart)

  pub has-firsts : (xs : List L) (q : L) → has eq (firsts eq xs) q ≡ has eq xs q
  has-firsts [] q = refl
  has-firsts (x ∷ xs) q = go (eq x q) refl (has-firsts xs q)
    where
      go : (b : Bool) → eq x q ≡ b → has eq (firsts eq xs) q ≡ has eq xs q
          → has eq (firsts eq (x ∷ xs)) q ≡ has eq (x ∷ xs) q
      go true e rest = rw e refl
      go false e rest = rw e (has-without x q (firsts eq xs) e ∙ rest)

  filter-push : (p : L → Bool) (zs : List L) (x : L)
      → filter p (zs ++ x ∷ []) ≡ (if p x then filter p zs ++ x ∷ [] else filter p zs)
  filter-push p [] x = refl
  filter-push p (z ∷ zs) x = go (p z) (p x) refl refl (filter-push p zs x)
    where
      go : (b c : Bool) → p z ≡ b → p x ≡ c
          → filter p (zs ++ x ∷ []) ≡ (if p x then filter p zs ++ x ∷ [] else filter p zs)
          → filter p (z ∷ zs ++ x ∷ []) ≡ (if p x then filter p (z ∷ zs) ++ x ∷ [] else filter p (z ∷ zs))
      go true true e f rest = rw (e, f) (ap (λ (l : List L). z ∷ l) (rest ∙ rw f refl))
      go true false e f rest = rw (e, f) (ap (λ (l : List L). z ∷ l) (rest ∙ rw f refl))
      go false true e f rest = rw (e, f) (rest ∙ rw f refl)
      go false false e f rest = rw (e, f) (rest ∙ rw f refl)

  pub firsts-push : (xs : List L) (x : L)
      → firsts eq (xs ++ x ∷ []) ≡ (if has eq xs x then firsts eq xs else firsts eq xs ++ x ∷ [])
  firsts-push [] x = refl
  firsts-push (y ∷ ys) x = go (eq y x) (has eq ys x) refl refl (firsts-push ys x)
    where
      go : (b c : Bool) → eq y x ≡ b → has eq ys x ≡ c
          → firsts eq (ys ++ x ∷ []) ≡ (if has eq ys x then firsts eq ys else firsts eq ys ++ x ∷ [])
          → firsts eq (y ∷ ys ++ x ∷ []) ≡ (if has eq (y ∷ ys) x then firsts eq (y ∷ ys) else firsts eq (y ∷ ys) ++ x ∷ [])
      go true true e f rest = rw (rest, e, f) refl
      go false true e f rest = rw (rest, e, f) refl
      go true false e f rest = rw (rest, f, filter-push (λ z. not (eq y z)) (firsts eq ys) x, e) refl
      go false false e f rest = rw (rest, f, filter-push (λ z. not (eq y z)) (firsts eq ys) x, e) refl

  pub no_repeat-push : (xs : List L) (x : L) → no_repeat eq (xs ++ x ∷ []) ≡ (no_repeat eq xs && not (has eq xs x))
  no_repeat-push [] x = refl
  no_repeat-push (y ∷ ys) x =
      rw (has-append ys (x ∷ []) y, no_repeat-push ys x, laws.equivalence.symm x y)
      (bits (has eq ys y) (eq y x) (no_repeat eq ys) (has eq ys x))
    where
      bits : (a b c d : Bool) → (not (a || (b || false)) && (c && not d)) ≡ ((not a && c) && not (b || d))
      bits true b c d = refl
      bits false true true d = refl
      bits false true false d = refl
      bits false false c d = refl

  pub has_pair-push : (xs : List L) (x : L)
      → has_pair eq opposite (xs ++ x ∷ []) ≡ (has_pair eq opposite xs || has eq xs (opposite x))
  has_pair-push [] x = refl
  has_pair-push (y ∷ ys) x =
      rw (has-append ys (x ∷ []) (opposite y), has_pair-push ys x, eq-opposite x y)
      (bits (has eq ys (opposite y)) (eq y (opposite x)) (has_pair eq opposite ys) (has eq ys (opposite x)))
    where
      bits : (a b c d : Bool) → ((a || (b || false)) || (c || d)) ≡ ((a || c) || (b || d))
      bits true b c d = refl
      bits false true true d = refl
      bits false true false d = refl
      bits false false c d = refl

  pub kept-adds : (seen kept : List L) (x : L) (new : List L) → IsKept eq opposite seen kept → Adds eq opposite kept x new
      → IsKept eq opposite (seen ++ x ∷ []) new
  kept-adds seen kept x new k adds = go (has eq kept x) refl
    where
      same_has : (q : L) → has eq kept q ≡ has eq seen q
      same_has q = ap (λ (l : List L). has eq l q) k.first ∙ has-firsts seen q

      apart : has_pair eq opposite (seen ++ x ∷ []) ≡ false
      apart = has_pair-push seen x ∙ rw (k.apart, sym (same_has (opposite x)), adds.apart) refl

      go : (b : Bool) → has eq kept x ≡ b → IsKept eq opposite (seen ++ x ∷ []) new
      go true e =
          let same : new ≡ kept = adds.kept ∙ rw e refl in
          record {
            first = same ∙ k.first ∙ sym (firsts-push seen x ∙ rw (sym (same_has x) ∙ e) refl);
            apart = apart;
            clause = subst (λ (l : List L). IsClause eq opposite l) (sym same) k.clause;
          }
      go false e =
          let same : new ≡ kept ++ x ∷ [] = adds.kept ∙ rw e refl in
          record {
            first = same ∙ ap (λ (l : List L). l ++ x ∷ []) k.first ∙ sym (firsts-push seen x ∙ rw (sym (same_has x) ∙ e) refl);
            apart = apart;
            clause = subst (λ (l : List L). IsClause eq opposite l) (sym same) (record {
              once = no_repeat-push kept x ∙ rw (k.clause.once, e) refl;
              apart = has_pair-push kept x ∙ rw (k.clause.apart, adds.apart) refl;
            });
          }

  -- a pair among the literals seen so far and the next one stands among all of them
  pub has_pair-append : (xs ys : List L) → has_pair eq opposite xs ≡ true → has_pair eq opposite (xs ++ ys) ≡ true
  has_pair-append [] ys h = cc
  has_pair-append (x ∷ xs) ys h =
      go (has eq xs (opposite x)) refl (has_pair-append xs ys)
    where
      go : (b : Bool) → has eq xs (opposite x) ≡ b → (has_pair eq opposite xs ≡ true → has_pair eq opposite (xs ++ ys) ≡ true)
          → has_pair eq opposite ((x ∷ xs) ++ ys) ≡ true
      go true e rest = rw (has-append xs ys (opposite x), e) refl
      go false e rest = rw (rest (rw e at h)) (or-true (has eq (xs ++ ys) (opposite x)))

  seen : (lits : List L) (i : ℕ) (x : L) → i < length lits → x ≡ get_or lits i x
      → take (i + 1) lits ≡ take i lits ++ x ∷ []
  seen lits i x below at = take_more lits i x below ∙ ap (λ (y : L). take i lits ++ y ∷ []) (sym at)

  -- the next literal of the list joins the set of those before
  pub firsts-next : (lits : List L) (i : ℕ) (x : L) (old new : List L) → i < length lits → x ≡ get_or lits i x
      → old ≡ firsts eq (take i lits) → new ≡ (if has eq old x then old else old ++ x ∷ []) → new ≡ firsts eq (take (i + 1) lits)
  firsts-next lits i x old new below at is put =
      rw (seen lits i x below at)
      (put ∙ ap (λ (l : List L). if has eq l x then l else l ++ x ∷ []) is
      ∙ rw has-firsts (sym (firsts-push (take i lits) x)))

  -- the next literal of the list joins what is kept
  pub kept-next : (lits : List L) (i : ℕ) (x : L) (kept new : List L) → i < length lits → x ≡ get_or lits i x
      → IsKept eq opposite (take i lits) kept → Adds eq opposite kept x new → IsKept eq opposite (take (i + 1) lits) new
  kept-next lits i x kept new below at k adds =
      rw (seen lits i x below at) (kept-adds (take i lits) kept x new k adds)

  -- the next literal is the negation of one that is kept
  pub pair-next : (lits : List L) (i : ℕ) (x : L) (kept : List L) → i < length lits → x ≡ get_or lits i x
      → IsKept eq opposite (take i lits) kept → has eq kept (opposite x) ≡ true → has_pair eq opposite lits ≡ true
  pair-next lits i x kept below at k pair =
      let same : has eq kept (opposite x) ≡ has eq (take i lits) (opposite x) =
      ap (λ (l : List L). has eq l (opposite x)) k.first ∙ has-firsts (take i lits) (opposite x) in
      let here : has_pair eq opposite (take i lits ++ x ∷ []) ≡ true =
      has_pair-push (take i lits) x ∙ rw (k.apart, sym same ∙ pair) refl in
      let there : has_pair eq opposite (take (i + 1) lits) ≡ true = rw (seen lits i x below at) here in
      subst (λ (l : List L). has_pair eq opposite l ≡ true) (take-append-drop (i + 1) lits)
      (has_pair-append (take (i + 1) lits) (drop (i + 1) lits) there)
