-- Nodes and literals that the program finds equal are one; what stands at the place that a test finds.
use Rattle.std.proofs.Common.{◌≡◌, ℕ, ◌+◌, ◌<◌, ◌≤◌, Bool, true, false, Option, None, Some, List, [], ◌∷◌, length, refl, sym, ap, ◌∙◌, subst, arith, zero, suc, find}
use Rattle.std.specs.Prelude.{slice_get, ◌==◌, ⊤}
use Rattle.std.specs.Option.{is_some}
use Rattle.std.specs.List.{list_any, list_all, AllByRecursion, range_with_len}
use Rattle.std.proofs.lemmas.Bool.{and_parts}
use Rattle.std.proofs.lemmas.Option.{slice_get_within, none-some, same_Some}
use Rattle.std.proofs.lemmas.Bool.Decides.{nat_tests}
use Rattle.netlist.specs.Place.{place_of}
use Rattle.netlist.proofs.PlaceLemmas.{is_some-place, at_place}

pub equal-number : (x y : ℕ) → (x == y) ≡ true → x ≡ y
equal-number x y e = grind (arith, nat_tests)

pub other-number : (x y : ℕ) → (x == y) ≡ false → (y == x) ≡ false
other-number x y e = grind (arith, nat_tests)

pub same-number : (x : ℕ) → (x == x) ≡ true
same-number x = grind (arith, nat_tests)

module _ {X : Type 0} (test : X → Bool) where
  -- where some element passes there is a place
  pub place_from_any : (xs : List X) → list_any test xs ≡ true → (k : ℕ) × (place_of test xs ≡ Some k)
  place_from_any xs h = go (place_of test xs) refl
    where
      go : (o : Option ℕ) → place_of test xs ≡ o → (k : ℕ) × (place_of test xs ≡ Some k)
      go (Some k) e = (k, e)
      go None e = let f : false ≡ true = sym (ap is_some e) ∙ is_some-place test xs ∙ h in cc

  -- what holds of the place
  pub at-place : (xs : List X) (k : ℕ) → place_of test xs ≡ Some k
      → (x : X) × (slice_get xs k ≡ Some x) × (test x ≡ true) × (k < length xs) × (list_any test xs ≡ true)
  at-place xs k h =
      let r = at_place test xs k h in
      (r.0, r.1, r.2, slice_get_within xs k r.0 r.1, sym (is_some-place test xs) ∙ ap is_some h)

  -- the first that passes has what all have, and passes
  pub found-one : (P : X → Type 0) (xs : List X) (x : X) → AllByRecursion P xs → find test xs ≡ Some x → P x × (test x ≡ true)
  found-one P [] x all h = absurd (none-some x h)
  found-one P (y ∷ ys) x all h = go (test y) refl (found-one P ys x)
    where
      go : (b : Bool) → test y ≡ b → (AllByRecursion P ys → find test ys ≡ Some x → P x × (test x ≡ true))
          → P x × (test x ≡ true)
      go true e rest =
          let same : y ≡ x = same_Some y x (rw e at h) in
          subst (λ (z : X). P z × (test z ≡ true)) same (all.0, e)
      go false e rest = rest all.1 (rw e at h)

  pub any_from_find : (xs : List X) (x : X) → find test xs ≡ Some x → list_any test xs ≡ true
  any_from_find [] x h = absurd (none-some x h)
  any_from_find (y ∷ ys) x h = go (test y) refl (any_from_find ys x)
    where
      go : (b : Bool) → test y ≡ b → (find test ys ≡ Some x → list_any test ys ≡ true) → list_any test (y ∷ ys) ≡ true
      go true e rest = rw e refl
      go false e rest = rw e (rest (rw e at h))

  -- what all elements pass, the element at a place passes
  pub list_all-get : (xs : List X) (k : ℕ) (x : X) → list_all test xs ≡ true → slice_get xs k ≡ Some x → test x ≡ true
  list_all-get [] k x all h = absurd (none-some x h)
  list_all-get (y ∷ ys) zero x all h = subst (λ (z : X). test z ≡ true) (same_Some y x h) (and_parts (test y) (list_all test ys) all).0
  list_all-get (y ∷ ys) (suc k) x all h = list_all-get ys k x (and_parts (test y) (list_all test ys) all).1 h

  -- where some element passes, one is found
  pub find_from_any : (xs : List X) → list_any test xs ≡ true → (x : X) × (find test xs ≡ Some x)
  find_from_any [] h = cc
  find_from_any (x ∷ xs) h = go (test x) refl (find_from_any xs)
    where
      go : (b : Bool) → test x ≡ b → (list_any test xs ≡ true → (y : X) × (find test xs ≡ Some y))
          → (y : X) × (find test (x ∷ xs) ≡ Some y)
      go true e rest = (x, rw e refl)
      go false e rest = let r = rest (rw e at h) in (r.0, rw (e, r.1) refl)

-- what two lists of facts about the same elements give
pub both-all : {X : Type 0} (P Q R : X → Type 0) → ((x : X) → P x → Q x → R x) → (xs : List X)
    → AllByRecursion P xs → AllByRecursion Q xs → AllByRecursion R xs
both-all P Q R f [] p q = tt
both-all P Q R f (x ∷ xs) p q = (f x p.0 q.0, both-all P Q R f xs p.1 q.1)

-- no fact
pub no-facts : {X : Type 0} (xs : List X) → AllByRecursion (λ x. ⊤) xs
no-facts [] = tt
no-facts (x ∷ xs) = (tt, no-facts xs)

-- what follows from the facts
pub all-weaker : {X : Type 0} (P Q : X → Type 0) → ((x : X) → P x → Q x) → (xs : List X) → AllByRecursion P xs → AllByRecursion Q xs
all-weaker P Q f [] p = tt
all-weaker P Q f (x ∷ xs) p = (f x p.0, all-weaker P Q f xs p.1)

pub list_any-same : {X : Type 0} (test other : X → Bool) → ((x : X) → test x ≡ other x) → (xs : List X) → list_any test xs ≡ list_any other xs
list_any-same test other same [] = refl
list_any-same test other same (x ∷ xs) = rw (same x, list_any-same test other same xs) refl

-- a number is among the n numbers from a on exactly where it lies between
pub in-range : (a n k : ℕ) → list_any (λ x. x == k) (range_with_len a n) ≡ true → k < a + n
in-range a zero k h = cc
in-range a (suc n) k h = go (a == k) refl (in-range (a + 1) n k)
  where
    go : (b : Bool) → (a == k) ≡ b → (list_any (λ x. x == k) (range_with_len (a + 1) n) ≡ true → k < (a + 1) + n) → k < a + suc n
    go true e rest = let same = equal-number a k e in omega arith
    go false e rest = let l = rest (rw e at h) in omega arith

-- the other way round
pub range-has : (a n k : ℕ) → a ≤ k → k < a + n → list_any (λ x. x == k) (range_with_len a n) ≡ true
range-has a zero k from below = absurd (omega arith)
range-has a (suc n) k from below = go (a == k) refl (range-has (a + 1) n k)
  where
    go : (b : Bool) → (a == k) ≡ b → (a + 1 ≤ k → k < (a + 1) + n → list_any (λ x. x == k) (range_with_len (a + 1) n) ≡ true)
        → list_any (λ x. x == k) (range_with_len a (suc n)) ≡ true
    go true e rest = rw e refl
    go false e rest =
        let far : a + 1 ≤ k = grind (arith, nat_tests) in
        rw e (rest far (omega arith))
