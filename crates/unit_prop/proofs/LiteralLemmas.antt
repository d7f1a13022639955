-- What tests of literals find in lists of literals.
use Rattle.std.proofs.Common.{◌≡◌, Bool, true, false, ◌&&◌, ◌||◌, List, [], ◌∷◌, refl, sym, ap, ◌∙◌, subst, inl, inr}
use Rattle.std.specs.Prelude.{filter, map}
use Rattle.std.specs.List.{list_any, list_all}
use Rattle.std.proofs.lemmas.Bool.{or_cases, or_left, or_right, and_parts}
use Rattle.std.proofs.Math.Bool.{and-false}
use Rattle.lits.specs.Clause.{has}
use Rattle.lits.proofs.Facts.{IsLiteral}

pub alone : (b : Bool) → (b || false) ≡ true → b ≡ true
alone true e = refl
alone false e = e

-- a test isn't both true and false
pub contrary : {A : Type 0} (b : Bool) → b ≡ true → b ≡ false → A
contrary b e f = let g : true ≡ false = sym e ∙ f in cc

module _ {L : Type 0} {eq : L → L → Bool} {opposite : L → L} (laws : IsLiteral eq opposite) where
  pub has-head : (x : L) (xs : List L) → has eq (x ∷ xs) x ≡ true
  has-head x xs = or_left _ _ (laws.equivalence.refl x)

  -- some literal of the list passes: it is in the list
  pub witness : (p : L → Bool) (xs : List L) → list_any p xs ≡ true → (m : L) × (has eq xs m ≡ true) × (p m ≡ true)
  witness p [] e = cc
  witness p (x ∷ xs) e =
      elim (or_cases (p x) (list_any p xs) e) [
        | inl f ↦ (x, has-head x xs, f)
        | inr f ↦ let w = witness p xs f in (w.0, or_right (eq x w.0) _ w.1, w.2)
      ]

  -- the converse
  pub passes : (p : L → Bool) (xs : List L) (m : L) → has eq xs m ≡ true → p m ≡ true → list_any p xs ≡ true
  passes p [] m e f = cc
  passes p (x ∷ xs) m e f =
      elim (or_cases (eq x m) (has eq xs m) e) [
        | inl g ↦ or_left _ _ (ap p (laws.exact x m g) ∙ f)
        | inr g ↦ or_right (p x) _ (passes p xs m g f)
      ]

  -- what is in a filtered list
  pub has-filter : (p : L → Bool) (xs : List L) (q : L) → has eq (filter p xs) q ≡ (has eq xs q && p q)
  has-filter p [] q = refl
  has-filter p (x ∷ xs) q = go (p x) (eq x q) (p q) refl refl refl (has-filter p xs q)
    where
      go : (a b c : Bool) → p x ≡ a → eq x q ≡ b → p q ≡ c → has eq (filter p xs) q ≡ (has eq xs q && p q)
          → has eq (filter p (x ∷ xs)) q ≡ (has eq (x ∷ xs) q && p q)
      go true true true e f g rest = rw (e, f, g) refl
      go false true false e f g rest = rw (e, f) (rest ∙ rw g (and-false (has eq xs q)))
      go true true false e f g rest = let same = ap p (laws.exact x q f) in cc
      go false true true e f g rest = let same = ap p (laws.exact x q f) in cc
      go true false c e f g rest = rw (e, f) rest
      go false false c e f g rest = rw (e, f) rest

  pub has-map-opposite : (xs : List L) (q : L) → has eq (map opposite xs) q ≡ has eq xs (opposite q)
  has-map-opposite [] q = refl
  has-map-opposite (x ∷ xs) q = rw (has-map-opposite xs q) (ap (λ (b : Bool). b || has eq xs (opposite q)) (flip x q))
    where
      flip : (a b : L) → eq (opposite a) b ≡ eq a (opposite b)
      flip a b = go (eq (opposite a) b) (eq a (opposite b)) refl refl
        where
          go : (c d : Bool) → eq (opposite a) b ≡ c → eq a (opposite b) ≡ d → c ≡ d
          go true true e f = refl
          go false false e f = refl
          go true false e f =
              let same = sym (laws.twice a) ∙ ap opposite (laws.exact _ _ e) in
              let g = subst (λ (z : L). eq a z ≡ true) same (laws.equivalence.refl a) in cc
          go false true e f =
              let same = ap opposite (laws.exact _ _ f) ∙ laws.twice b in
              let g = subst (λ (z : L). eq (opposite a) z ≡ true) same (laws.equivalence.refl (opposite a)) in cc

  -- a test that passes all in the list
  pub all-true : (p : L → Bool) (xs : List L) → ((m : L) → has eq xs m ≡ true → p m ≡ true) → list_all p xs ≡ true
  all-true p [] each = refl
  all-true p (x ∷ xs) each =
      rw (each x (has-head x xs), all-true p xs (λ m h. each m (or_right (eq x m) _ h))) refl

  -- the converse
  pub all-at : (p : L → Bool) (xs : List L) (m : L) → list_all p xs ≡ true → has eq xs m ≡ true → p m ≡ true
  all-at p [] m all inside = cc
  all-at p (x ∷ xs) m all inside =
      let parts = and_parts (p x) (list_all p xs) all in
      elim (or_cases (eq x m) (has eq xs m) inside) [
        | inl e ↦ sym (ap p (laws.exact x m e)) ∙ parts.0
        | inr e ↦ all-at p xs m parts.1 e
      ]
