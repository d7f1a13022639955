-- Places in lists that are joined, mapped or cut.
use Rattle.std.proofs.Common.{◌≡◌, ℕ, zero, suc, ◌+◌, ◌<◌, ◌≤◌, Bool, true, false, cond, Option, None, Some, List, [], ◌∷◌, ◌++◌, length, take, map, refl, sym, ap, ◌∙◌, subst, arith, add-one, zero-add}
use Rattle.std.specs.Prelude.{slice_get, option_and_then, ◌==◌, ◌||◌}
use Rattle.std.proofs.lemmas.Option.{none-some, same_Some}
use Rattle.std.proofs.lemmas.Bool.Decides.{nat_tests}
use Rattle.std.specs.Option.{option_map, is_some}
use Rattle.std.specs.List.{list_any, find, range_with_len}
use Rattle.netlist.specs.Place.{place_of, before}

-- one place or another one
abbrev pub or_place : Option ℕ → Option ℕ → Option ℕ
or_place None b = b
or_place (Some k) b = Some k

or_place-map : (a b : Option ℕ) → option_map (λ k. k + 1) (or_place a b) ≡ or_place (option_map (λ k. k + 1) a) (option_map (λ k. k + 1) b)
or_place-map None b = refl
or_place-map (Some k) b = refl

option_map-map : (o : Option ℕ) (n : ℕ) → option_map (λ k. k + 1) (option_map (λ k. n + k) o) ≡ option_map (λ k. (n + 1) + k) o
option_map-map None n = refl
option_map-map (Some k) n = let e : (n + k) + 1 ≡ (n + 1) + k = omega arith in ap Some e

option_map-zero : (o : Option ℕ) → o ≡ option_map (λ k. 0 + k) o
option_map-zero None = refl
option_map-zero (Some k) = ap Some (sym (zero-add k))

pub place_of-append : {X : Type 0} (test : X → Bool) (xs ys : List X)
    → place_of test (xs ++ ys) ≡ or_place (place_of test xs) (option_map (λ k. length xs + k) (place_of test ys))
place_of-append test [] ys = option_map-zero (place_of test ys)
place_of-append {X} test (x ∷ xs) ys = go (test x) (place_of-append test xs ys)
  where
    shift : option_map (λ k. k + 1) (option_map (λ k. length xs + k) (place_of test ys)) ≡ option_map (λ k. length (x ∷ xs) + k) (place_of test ys)
    shift = option_map-map (place_of test ys) (length xs) ∙ ap (λ (n : ℕ). option_map (λ k. n + k) (place_of test ys)) (add-one (length xs))

    go : (b : Bool)
        → place_of test (xs ++ ys) ≡ or_place (place_of test xs) (option_map (λ k. length xs + k) (place_of test ys))
        → cond b (Some 0) (option_map (λ k. k + 1) (place_of test (xs ++ ys)))
        ≡ or_place (cond b (Some 0) (option_map (λ k. k + 1) (place_of test xs))) (option_map (λ k. length (x ∷ xs) + k) (place_of test ys))
    go true e = refl
    go false e =
        ap (option_map (λ k. k + 1)) e
        ∙ or_place-map (place_of test xs) (option_map (λ k. length xs + k) (place_of test ys))
        ∙ ap (or_place (option_map (λ k. k + 1) (place_of test xs))) shift

pub place_of-map : {X Y : Type 0} (test : Y → Bool) (f : X → Y) (xs : List X) → place_of test (map f xs) ≡ place_of (λ x. test (f x)) xs
place_of-map test f [] = refl
place_of-map test f (x ∷ xs) = ap (λ (o : Option ℕ). cond (test (f x)) (Some 0) (option_map (λ k. k + 1) o)) (place_of-map test f xs)

is_some-next : (b : Bool) (o : Option ℕ) → is_some (cond b (Some 0) (option_map (λ k. k + 1) o)) ≡ (b || is_some o)
is_some-next true o = refl
is_some-next false None = refl
is_some-next false (Some k) = refl

-- there is a place exactly where some element passes
pub is_some-place : {X : Type 0} (test : X → Bool) (xs : List X) → is_some (place_of test xs) ≡ list_any test xs
is_some-place test [] = refl
is_some-place test (x ∷ xs) = is_some-next (test x) (place_of test xs) ∙ ap (λ (b : Bool). test x || b) (is_some-place test xs)

-- what isn't there is None
pub none_from_is_some : (o : Option ℕ) → is_some o ≡ false → o ≡ None
none_from_is_some None e = refl
none_from_is_some (Some k) e = cc

pub place_none : {X : Type 0} (test : X → Bool) (xs : List X) → list_any test xs ≡ false → place_of test xs ≡ None
place_none test xs e = none_from_is_some (place_of test xs) (is_some-place test xs ∙ e)

-- what a place k of `x ∷ xs` can be: that of x, or one behind it
pub next_place : (P : ℕ → Type 0) (b : Bool) (o : Option ℕ) (k : ℕ) → cond b (Some 0) (option_map (λ j. j + 1) o) ≡ Some k
    → (b ≡ true → P 0) → ((j : ℕ) → b ≡ false → o ≡ Some j → P (suc j)) → P k
next_place P true o k e here later = subst P (same_Some 0 k e) (here refl)
next_place P false None k e here later = absurd (none-some k e)
next_place P false (Some j) k e here later = subst P (sym (add-one j) ∙ same_Some (j + 1) k e) (later j refl refl)

-- the element at the place passes
pub at_place : {X : Type 0} (test : X → Bool) (xs : List X) (k : ℕ) → place_of test xs ≡ Some k → (x : X) × (slice_get xs k ≡ Some x) × (test x ≡ true)
at_place test [] k e = absurd (none-some k e)
at_place {X} test (x ∷ xs) k e =
    next_place (λ (n : ℕ). (y : X) × (slice_get (x ∷ xs) n ≡ Some y) × (test y ≡ true)) (test x) (place_of test xs) k e
    (λ t. (x, refl, t)) (λ j f o. at_place test xs j o)

pub before-take : {X : Type 0} (test : X → Bool) (xs : List X) (k : ℕ) → place_of test xs ≡ Some k → before test xs ≡ take k xs
before-take test [] k e = absurd (none-some k e)
before-take {X} test (x ∷ xs) k e =
    next_place (λ (n : ℕ). cond (test x) [] (x ∷ before test xs) ≡ take n (x ∷ xs)) (test x) (place_of test xs) k e
    (λ t. rw t refl) (λ j f o. rw (f, before-take test xs j o) refl)

pub find-place : {X : Type 0} (test : X → Bool) (xs : List X) → find test xs ≡ option_and_then (slice_get xs) (place_of test xs)
find-place test [] = refl
find-place {X} test (x ∷ xs) = go (test x) (place_of test xs) (find-place test xs)
  where
    go : (b : Bool) (o : Option ℕ) → find test xs ≡ option_and_then (slice_get xs) o
        → cond b (Some x) (find test xs) ≡ option_and_then (slice_get (x ∷ xs)) (cond b (Some 0) (option_map (λ k. k + 1) o))
    go true o e = refl
    go false None e = e
    go false (Some k) e = e ∙ ap (slice_get (x ∷ xs)) (sym (add-one k))

-- a number's place among n numbers from a on
pub place-range_in : (n a q k : ℕ) → q ≡ a + k → k < n → place_of (λ x. x == q) (range_with_len a n) ≡ Some k
place-range_in zero a q k e l = absurd (omega arith)
place-range_in (suc n) a q zero e l = let t : (a == q) ≡ true = grind (arith, nat_tests) in rw t refl
place-range_in (suc n) a q (suc k) e l =
    let f : (a == q) ≡ false = grind (arith, nat_tests) in
    let rest : place_of (λ x. x == q) (range_with_len (a + 1) n) ≡ Some k = place-range_in n (a + 1) q k (omega arith) (omega arith) in
    rw (f, rest) (ap Some (add-one k))

pub place-range_out : (n a q : ℕ) → a + n ≤ q → place_of (λ x. x == q) (range_with_len a n) ≡ None
place-range_out zero a q l = refl
place-range_out (suc n) a q l =
    let f : (a == q) ≡ false = grind (arith, nat_tests) in
    rw (f, place-range_out n (a + 1) q (omega arith)) refl

pub length-range : (n a : ℕ) → length (range_with_len a n) ≡ n
length-range zero a = refl
length-range (suc n) a = ap suc (length-range n (a + 1))

pub slice_get-range : (n a k : ℕ) → k < n → slice_get (range_with_len a n) k ≡ Some (a + k)
slice_get-range zero a k l = absurd (omega arith)
slice_get-range (suc n) a zero l = let e : a ≡ a + 0 = omega arith in ap Some e
slice_get-range (suc n) a (suc k) l =
    let e : (a + 1) + k ≡ a + suc k = omega arith in slice_get-range n (a + 1) k (omega arith) ∙ ap Some e

pub slice_get-left : {X : Type 0} (xs ys : List X) (k : ℕ) → k < length xs → slice_get (xs ++ ys) k ≡ slice_get xs k
slice_get-left [] ys k l = absurd (omega arith)
slice_get-left (x ∷ xs) ys zero l = refl
slice_get-left (x ∷ xs) ys (suc k) l = slice_get-left xs ys k (omega arith)

pub slice_get-right : {X : Type 0} (xs ys : List X) (k : ℕ) → slice_get (xs ++ ys) (length xs + k) ≡ slice_get ys k
slice_get-right [] ys k = ap (slice_get ys) (zero-add k)
slice_get-right (x ∷ xs) ys k =
    let e : length (x ∷ xs) + k ≡ suc (length xs + k) = omega arith in ap (slice_get (x ∷ (xs ++ ys))) e ∙ slice_get-right xs ys k

pub place_none-all : {X : Type 0} (test : X → Bool) (xs : List X) → ((x : X) → test x ≡ false) → place_of test xs ≡ None
place_none-all test [] none = refl
place_none-all test (x ∷ xs) none = rw (none x, place_none-all test xs none) refl
