-- Sums over the elements of a list: lists that have the same elements of each key have the same sums.
use Rattle.std.proofs.Common.{◌≡◌, ◌≢◌, ℕ, zero, suc, ◌+◌, ◌<◌, ◌≤◌, Bool, true, false, cond, ◌==◌, List, [], ◌∷◌, ◌++◌, filter, map, take, slice_get, refl, sym, ap, ◌∙◌, subst, arith}
use Rattle.std.specs.List.{list_all}
use Rattle.std.specs.Option.{option_map_or}
use Rattle.std.proofs.lemmas.Bool.Decides.{nat_tests}
use Rattle.board_lock.specs.Totals.{times, once_below}
use Rattle.sweep_workers.specs.Answered.{many}

abbrev pub weigh : {T : Type 0} → (T → ℕ) → List T → ℕ
weigh w [] = 0
weigh w (x ∷ xs) = w x + weigh w xs

pub weigh-append : {T : Type 0} (w : T → ℕ) (xs ys : List T) → weigh w (xs ++ ys) ≡ weigh w xs + weigh w ys
weigh-append w [] ys = omega arith
weigh-append w (x ∷ xs) ys = let h = weigh-append w xs ys in omega arith

pub many-append : {T : Type 0} (test : T → Bool) (xs ys : List T) → many test (xs ++ ys) ≡ many test xs + many test ys
many-append test [] ys = omega arith
many-append test (x ∷ xs) ys = let h = many-append test xs ys in omega arith

-- a number is a test's count
pub many-weigh : {S T : Type 0} (f : T → S) (test : S → Bool) (xs : List T) → weigh (λ x. cond (test (f x)) 1 0) xs ≡ many test (map f xs)
many-weigh f test [] = refl
many-weigh f test (x ∷ xs) = ap (λ (n : ℕ). cond (test (f x)) 1 0 + n) (many-weigh f test xs)

many-take : {T : Type 0} (test : T → Bool) (n : ℕ) (xs : List T) → many test (take n xs) ≤ many test xs
many-take test zero xs = omega arith
many-take test (suc n) [] = omega arith
many-take test (suc n) (x ∷ xs) = let h = many-take test n xs in omega arith

-- what none passes, each fails
pub none-passes : {T : Type 0} (test : T → Bool) (xs : List T) → list_all test xs ≡ true → weigh (λ x. cond (test x) 0 1) xs ≡ 0
none-passes test [] all = refl
none-passes test (x ∷ xs) all = go (test x) refl all (none-passes test xs)
  where
    go : (b : Bool) → test x ≡ b → list_all test (x ∷ xs) ≡ true → (list_all test xs ≡ true → weigh (λ y. cond (test y) 0 1) xs ≡ 0)
        → weigh (λ y. cond (test y) 0 1) (x ∷ xs) ≡ 0
    go true is all rest = let r = rest (rw is at all) in rw (is, r) refl
    go false is all rest = let t : false ≡ true = rw is at all in cc

pub all-pass : {T : Type 0} (test : T → Bool) (xs : List T) → weigh (λ x. cond (test x) 0 1) xs ≡ 0 → list_all test xs ≡ true
all-pass test [] none = refl
all-pass test (x ∷ xs) none = go (test x) refl none (all-pass test xs)
  where
    go : (b : Bool) → test x ≡ b → weigh (λ y. cond (test y) 0 1) (x ∷ xs) ≡ 0 → (weigh (λ y. cond (test y) 0 1) xs ≡ 0 → list_all test xs ≡ true)
        → list_all test (x ∷ xs) ≡ true
    go true is none rest =
        let z : 0 + weigh (λ y. cond (test y) 0 1) xs ≡ 0 = rw is at none in
        let r = rest (omega arith) in
        rw (is, r) refl
    go false is none rest = let t : 1 + weigh (λ y. cond (test y) 0 1) xs ≡ 0 = rw is at none in absurd (omega arith)

-- ---- by keys

abbrev pub keyed : {T : Type 0} → (T → ℕ) → ℕ → List T → List T
keyed key p xs = filter (λ t. key t == p) xs

-- the list without its first element of the key
abbrev without : {T : Type 0} → (T → ℕ) → ℕ → List T → List T
without key p [] = []
without key p (y ∷ ys) = cond (key y == p) ys (y ∷ without key p ys)

module _ {T : Type 0} (key : T → ℕ) where
  head-is : (x y : T) (xs ys : List T) → (y ∷ ys) ≡ (x ∷ xs) → y ≡ x
  head-is x y xs ys same = cc

  tail-is : (x y : T) (xs ys : List T) → (y ∷ ys) ≡ (x ∷ xs) → ys ≡ xs
  tail-is x y xs ys same = cc

  without-weight : (w : T → ℕ) (p : ℕ) (ys : List T) (x : T) (rest : List T) → keyed key p ys ≡ x ∷ rest
      → weigh w ys ≡ w x + weigh w (without key p ys)
  without-weight w p [] x rest is = cc
  without-weight w p (y ∷ ys) x rest is = go (key y == p) refl is (without-weight w p ys x rest)
    where
      go : (b : Bool) → (key y == p) ≡ b → keyed key p (y ∷ ys) ≡ x ∷ rest → (keyed key p ys ≡ x ∷ rest → weigh w ys ≡ w x + weigh w (without key p ys))
          → weigh w (y ∷ ys) ≡ w x + weigh w (without key p (y ∷ ys))
      go true t is ih = let k : (y ∷ keyed key p ys) ≡ x ∷ rest = rw t at is in rw (t, head-is x y rest (keyed key p ys) k) refl
      go false t is ih = let h = ih (rw t at is) in let e : without key p (y ∷ ys) ≡ y ∷ without key p ys = rw t refl in rw e (omega arith)

  without-same : (p : ℕ) (ys : List T) (x : T) (rest : List T) → keyed key p ys ≡ x ∷ rest → keyed key p (without key p ys) ≡ rest
  without-same p [] x rest is = cc
  without-same p (y ∷ ys) x rest is = go (key y == p) refl is (without-same p ys x rest)
    where
      go : (b : Bool) → (key y == p) ≡ b → keyed key p (y ∷ ys) ≡ x ∷ rest → (keyed key p ys ≡ x ∷ rest → keyed key p (without key p ys) ≡ rest)
          → keyed key p (without key p (y ∷ ys)) ≡ rest
      go true t is ih = let k : (y ∷ keyed key p ys) ≡ x ∷ rest = rw t at is in rw t (tail-is x y rest (keyed key p ys) k)
      go false t is ih = let h = ih (rw t at is) in rw (t, t) h

  without-other : (p q : ℕ) (ys : List T) → (p == q) ≡ false → keyed key q (without key p ys) ≡ keyed key q ys
  without-other p q [] apart = refl
  without-other p q (y ∷ ys) apart = go (key y == p) refl (without-other p q ys apart)
    where
      off : (key y == p) ≡ true → (key y == q) ≡ false
      off t = grind (arith, nat_tests)

      go : (b : Bool) → (key y == p) ≡ b → keyed key q (without key p ys) ≡ keyed key q ys
          → keyed key q (without key p (y ∷ ys)) ≡ keyed key q (y ∷ ys)
      go true t ih = rw (t, off t) refl
      go false t ih = rw (t, ih) refl

  -- a list without an element of any key is empty
  none-keyed : (y : T) (ys : List T) → keyed key (key y) (y ∷ ys) ≢ []
  none-keyed y ys none = let t : (key y == key y) ≡ true = grind (arith, nat_tests) in let k : (y ∷ keyed key (key y) ys) ≡ [] = rw t at none in cc

  pub same-weight : (w : T → ℕ) (xs ys : List T) → ((p : ℕ) → keyed key p xs ≡ keyed key p ys) → weigh w xs ≡ weigh w ys
  same-weight w [] [] same = refl
  same-weight w [] (y ∷ ys) same = absurd (none-keyed y ys (sym (same (key y))))
  same-weight w (x ∷ xs) ys same =
      let here : (key x == key x) ≡ true = grind (arith, nat_tests) in
      let first : keyed key (key x) ys ≡ x ∷ keyed key (key x) xs = sym (same (key x)) ∙ rw here refl in
      let rest : (p : ℕ) → keyed key p xs ≡ keyed key p (without key (key x) ys) = λ p. each p (key x == p) refl first in
      ap (λ (n : ℕ). w x + n) (same-weight w xs (without key (key x) ys) rest)
      ∙ sym (without-weight w (key x) ys x (keyed key (key x) xs) first)
    where
      each : (p : ℕ) (b : Bool) → (key x == p) ≡ b → keyed key (key x) ys ≡ x ∷ keyed key (key x) xs → keyed key p xs ≡ keyed key p (without key (key x) ys)
      each p true t first =
          let e : key x ≡ p = grind (arith, nat_tests) in
          subst (λ (q : ℕ). keyed key q xs ≡ keyed key q (without key (key x) ys)) e
          (sym (without-same (key x) ys x (keyed key (key x) xs) first))
      each p false t first =
          let k : keyed key p xs ≡ keyed key p ys = rw t at (same p) in
          k ∙ sym (without-other (key x) p ys t)

-- ---- numbers, each once

abbrev below : ℕ → List ℕ
below zero = []
below (suc n) = n ∷ below n

times-below : (x n : ℕ) → times x (below n) ≡ once_below x n
times-below x zero = refl
times-below x (suc n) = ap (λ (k : ℕ). cond (n == x) 1 0 + k) (times-below x n)

abbrev copies : ℕ → ℕ → List ℕ
copies x zero = []
copies x (suc n) = x ∷ copies x n

keyed-copies : (x : ℕ) (ys : List ℕ) → keyed (λ n. n) x ys ≡ copies x (times x ys)
keyed-copies x [] = refl
keyed-copies x (y ∷ ys) = go (y == x) refl (keyed-copies x ys)
  where
    go : (b : Bool) → (y == x) ≡ b → keyed (λ n. n) x ys ≡ copies x (times x ys) → keyed (λ n. n) x (y ∷ ys) ≡ copies x (times x (y ∷ ys))
    go true t ih =
        let e : y ≡ x = grind (arith, nat_tests) in
        let m : suc (times x ys) ≡ 1 + times x ys = omega arith in
        rw t (ap (λ (z : ℕ). z ∷ keyed (λ n. n) x ys) e ∙ (ap (λ (zs : List ℕ). x ∷ zs) ih ∙ ap (copies x) m))
    go false t ih = let m : times x ys ≡ 0 + times x ys = omega arith in rw t (ih ∙ ap (copies x) m)

-- what numbers weigh of which each stands once below another
pub once-weight : (w : ℕ → ℕ) (xs : List ℕ) (n : ℕ) → ((x : ℕ) → times x xs ≡ once_below x n) → weigh w xs ≡ weigh w (below n)
once-weight w xs n once =
    same-weight (λ (k : ℕ). k) w xs (below n)
    (λ p. keyed-copies p xs ∙ ap (copies p) (once p ∙ sym (times-below p n)) ∙ sym (keyed-copies p (below n)))

-- the weight of the element at a place, if it is there
abbrev pub at_place : {T : Type 0} → (T → ℕ) → List T → ℕ → ℕ
at_place w xs n = option_map_or w (slice_get xs n) 0

shifted : {T : Type 0} (w : T → ℕ) (x : T) (xs : List T) (n : ℕ) → weigh (at_place w (x ∷ xs)) (below (suc n)) ≡ w x + weigh (at_place w xs) (below n)
shifted w x xs zero = omega arith
shifted w x xs (suc n) = let h = shifted w x xs n in omega arith

none-there : {T : Type 0} (w : T → ℕ) (n : ℕ) → weigh (at_place w []) (below n) ≡ 0
none-there w zero = refl
none-there w (suc n) = let h = none-there w n in omega arith

pub places-weight : {T : Type 0} (w : T → ℕ) (xs : List T) (n : ℕ) → weigh (at_place w xs) (below n) ≤ weigh w xs
places-weight w [] n = let h = none-there w n in omega arith
places-weight w (x ∷ xs) zero = omega arith
places-weight w (x ∷ xs) (suc n) = let h = places-weight w xs n in let s = shifted w x xs n in omega arith

-- a number that stands below another once is less, and the other way round
pub drawn-below : (x n : ℕ) → 1 ≤ once_below x n → x < n
drawn-below x zero h = absurd (omega arith)
drawn-below x (suc n) h = go (λ k. drawn-below x n k) (n == x) refl
  where
    go : (1 ≤ once_below x n → x < n) → (b : Bool) → (n == x) ≡ b → x < suc n
    go rec true e = grind (arith, nat_tests)
    go rec false e =
        let h' : 1 ≤ cond false 1 0 + once_below x n = rw e at h in
        let r = rec (omega arith) in
        omega arith

pub below-drawn : (x n : ℕ) → x < n → 1 ≤ once_below x n
below-drawn x zero h = absurd (omega arith)
below-drawn x (suc n) h = go (λ k. below-drawn x n k) (n == x) refl
  where
    go : (x < n → 1 ≤ once_below x n) → (b : Bool) → (n == x) ≡ b → 1 ≤ cond b 1 0 + once_below x n
    go rec true e = omega arith
    go rec false e = let r = rec (grind (arith, nat_tests)) in omega arith
