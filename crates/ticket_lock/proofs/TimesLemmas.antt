-- How often a number stands in a list, and below another number.
use Rattle.std.proofs.Common.{◌≡◌, ℕ, zero, suc, ◌+◌, ◌<◌, ◌≤◌, Bool, true, false, cond, ◌==◌, List, [], ◌∷◌, ◌++◌, length, refl, arith}
use Rattle.std.proofs.lemmas.Bool.Decides.{nat_tests}
use Rattle.ticket_lock.specs.Totals.{times, once_below, AllBelow}

pub times-append : (p : ℕ) (xs ys : List ℕ) → times p (xs ++ ys) ≡ times p xs + times p ys
times-append p [] ys = omega arith
times-append p (x ∷ xs) ys = let h = times-append p xs ys in omega arith

pub times-one : (p : ℕ) → times p (p ∷ []) ≡ 1
times-one p = grind (arith, nat_tests)

-- what stands in a list is in a list that isn't empty
pub times-length : (p : ℕ) (xs : List ℕ) → 1 ≤ times p xs → 1 ≤ length xs
times-length p [] h = absurd (omega arith)
times-length p (x ∷ xs) h = omega arith

pub drawn-below : (x n : ℕ) → 1 ≤ once_below x n → x < n
drawn-below x zero h = absurd (omega arith)
drawn-below x (suc n) h = go (λ k. drawn-below x n k) (n == x) refl where
  go : (1 ≤ once_below x n → x < n) → (b : Bool) → (n == x) ≡ b → x < suc n
  go rec true e = grind (arith, nat_tests)
  go rec false e =
      let h' : 1 ≤ cond false 1 0 + once_below x n = rw e at h in
      let r = rec (omega arith) in
      omega arith

pub once-last : (x n : ℕ) → once_below x (n + 1) ≡ once_below x n + times x (n ∷ [])
once-last x n = let e : n + 1 ≡ suc n = omega arith in rw e (omega arith)

once-from : (y m : ℕ) → m ≤ y → once_below y m ≡ 0
once-from y zero h = refl
once-from y (suc m) h = let r = once-from y m (omega arith) in grind (arith, nat_tests)

pub once-most : (x n : ℕ) → once_below x n ≤ 1
once-most x zero = omega arith
once-most x (suc n) = tests (once-most x n) (n == x) refl where
  tests : once_below x n ≤ 1 → (b : Bool) → (n == x) ≡ b → cond b 1 0 + once_below x n ≤ 1
  tests ih true e = let r : once_below x n ≡ 0 = once-from x n (grind (arith, nat_tests)) in omega arith
  tests ih false e = omega arith

pub below-all : (n : ℕ) (xs : List ℕ) → ((x : ℕ) → 1 ≤ times x xs → x < n) → AllBelow n xs
below-all n [] h = tt
below-all n (x ∷ xs) h = (h x (let o = times-one x in omega arith), below-all n xs (λ y k. h y (omega arith)))
