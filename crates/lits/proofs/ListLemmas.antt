-- Counts and ranges, lists whose elements all have a property, and tests that some element passes.
use Rattle.std.proofs.Common.{◌≡◌, ℕ, zero, suc, ◌+◌, ◌-◌, ◌<◌, ◌≤◌, arith, Bool, true, false, ◌||◌, ◌&&◌, inl, inr, Some, List, [], ◌∷◌, ◌++◌, length, take, map, get_or, refl, sym, ap, ◌∙◌, subst}
use Rattle.std.specs.Prelude.{filter, slice_get, nat_lt, ◌==◌}
use Rattle.std.specs.List.{list_all, list_any, range_with_len, AllByRecursion}
use Rattle.std.proofs.lemmas.Bool.{or_cases, or_left, or_right}
use Rattle.std.proofs.lemmas.List.{map_more, take_more}
use Rattle.std.proofs.lemmas.List.Folds.{list_all_at, list_all_more}
use Rattle.std.proofs.lemmas.Option.{none-some, same_Some, slice_get_within, get_or_from_slice_get}
use Rattle.std.proofs.lemmas.Bool.Decides.{nat_tests}
use Rattle.lits.specs.Clause.{has, no_repeat}

-- what is left of a count: one less after each, and in the end nothing
pub left-more : (n k : ℕ) → k < n → n - k ≡ suc (n - (k + 1))
left-more n k lt = omega arith

pub left-none : (n k : ℕ) → n ≤ k → n - k ≡ 0
left-none n k le = omega arith

-- the test whether a number is less
pub lt-true : (a b : ℕ) → a < b → nat_lt a b ≡ true
lt-true a b lt = grind (arith, nat_tests)

-- one number more
pub range-more : (a n : ℕ) → range_with_len a (suc n) ≡ range_with_len a n ++ (a + n) ∷ []
range-more a zero = let e : a ≡ a + 0 = omega arith in ap (λ (x : ℕ). x ∷ []) e
range-more a (suc n) = let e : (a + 1) + n ≡ a + suc n = omega arith in ap (λ (xs : List ℕ). a ∷ xs) (range-more (a + 1) n ∙ rw e refl)

-- a range has no number before its first one, and none twice
pub range-above : (n a q : ℕ) → q < a → has ◌==◌ (range_with_len a n) q ≡ false
range-above zero a q below = refl
range-above (suc n) a q below =
    let apart : (a == q) ≡ false = grind (arith, nat_tests) in
    rw (apart, range-above n (a + 1) q (omega arith)) refl

pub no_repeat-range : (n a : ℕ) → no_repeat ◌==◌ (range_with_len a n) ≡ true
no_repeat-range zero a = refl
no_repeat-range (suc n) a = rw (range-above n (a + 1) a (omega arith), no_repeat-range n (a + 1)) refl

-- the element at a place has what all elements have
pub all-slice_get : {X : Type 0} (P : X → Type 0) (xs : List X) (k : ℕ) (x : X) → AllByRecursion P xs
    → slice_get xs k ≡ Some x → P x
all-slice_get P [] k x all e = absurd (none-some x e)
all-slice_get P (y ∷ ys) zero x all e = subst P (same_Some y x e) all.0
all-slice_get P (y ∷ ys) (suc k) x all e = all-slice_get P ys k x all.1 e

-- joined lists have what both have
pub all-append : {X : Type 0} (P : X → Type 0) (xs ys : List X) → AllByRecursion P xs → AllByRecursion P ys
    → AllByRecursion P (xs ++ ys)
all-append P [] ys p q = q
all-append P (x ∷ xs) ys p q = (p.0, all-append P xs ys p.1 q)

-- and each of them has what the joined list has
pub all-parts : {X : Type 0} (P : X → Type 0) (xs ys : List X) → AllByRecursion P (xs ++ ys)
    → AllByRecursion P xs × AllByRecursion P ys
all-parts P [] ys all = (tt, all)
all-parts P (x ∷ xs) ys all = let r = all-parts P xs ys all.1 in ((all.0, r.0), r.1)

-- what a filter keeps has what all had
pub all-filter : {X : Type 0} (P : X → Type 0) (test : X → Bool) (xs : List X) → AllByRecursion P xs
    → AllByRecursion P (filter test xs)
all-filter P test [] all = tt
all-filter {X} P test (x ∷ xs) all = go (test x) refl (all-filter P test xs all.1)
  where
    go : (b : Bool) → test x ≡ b → AllByRecursion P (filter test xs) → AllByRecursion P (filter test (x ∷ xs))
    go true e rest = rw e (all.0, rest)
    go false e rest = rw e rest

-- a mapped list
pub all-map : {X Y : Type 0} (P : Y → Type 0) (f : X → Y) (xs : List X) → AllByRecursion (λ x. P (f x)) xs
    → AllByRecursion P (map f xs)
all-map P f [] all = tt
all-map P f (x ∷ xs) all = (all.0, all-map P f xs all.1)

-- a test of some element of a mapped list is one of the list
pub list_any-map : {X Y : Type 0} (test : Y → Bool) (f : X → Y) (xs : List X)
    → list_any test (map f xs) ≡ list_any (λ x. test (f x)) xs
list_any-map test f [] = refl
list_any-map test f (x ∷ xs) = ap (λ (b : Bool). test (f x) || b) (list_any-map test f xs)

-- where one test passes, so does a weaker one
pub list_any-more : {X : Type 0} (p q : X → Bool) (xs : List X) → ((x : X) → p x ≡ true → q x ≡ true)
    → list_any p xs ≡ true → list_any q xs ≡ true
list_any-more p q [] f e = e
list_any-more p q (x ∷ xs) f e =
    elim (or_cases (p x) (list_any p xs) e) [
      | inl h ↦ or_left _ _ (f x h)
      | inr h ↦ or_right (q x) _ (list_any-more p q xs f h)
    ]

-- one element more of the front of a list
pub take_one : {X : Type 0} (xs : List X) (i : ℕ) (x : X) → i < length xs → x ≡ get_or xs i x
    → take (i + 1) xs ≡ take i xs ++ x ∷ []
take_one xs i x below at = take_more xs i x below ∙ ap (λ y. take i xs ++ y ∷ []) (sym at)

pub take_next : {X : Type 0} (xs : List X) (i : ℕ) (x : X) → slice_get xs i ≡ Some x
    → take (i + 1) xs ≡ take i xs ++ x ∷ []
take_next xs i x e = take_one xs i x (slice_get_within xs i x e) (sym (get_or_from_slice_get xs i x x e))

-- and of a mapped list
pub map_next : {X Y : Type 0} (f : X → Y) (xs : List X) (i : ℕ) (x : X) → slice_get xs i ≡ Some x
    → map f (take (i + 1) xs) ≡ map f (take i xs) ++ f x ∷ []
map_next f xs i x e =
    map_more f xs i x (slice_get_within xs i x e)
    ∙ ap (λ y. map f (take i xs) ++ f y ∷ []) (get_or_from_slice_get xs i x x e)

-- a test that the elements so far pass and the next one does, and one that an element doesn't pass
pub list_all-next : {X : Type 0} (test : X → Bool) (xs : List X) (i : ℕ) (x : X) → slice_get xs i ≡ Some x
    → list_all test (take i xs) ≡ true → test x ≡ true → list_all test (take (i + 1) xs) ≡ true
list_all-next test xs i x e all one =
    list_all_more test xs i x (slice_get_within xs i x e)
    ∙ ap (λ y. list_all test (take i xs) && test y) (get_or_from_slice_get xs i x x e)
    ∙ rw (all, one) refl

pub list_all-fails : {X : Type 0} (test : X → Bool) (xs : List X) (i : ℕ) (x : X) → slice_get xs i ≡ Some x
    → test x ≡ false → list_all test xs ≡ false
list_all-fails test xs i x e fails =
    list_all_at test xs i x (slice_get_within xs i x e) (ap test (get_or_from_slice_get xs i x x e) ∙ fails)
