-- Which places stay, and where in the new book their entries stand.
use Rattle.std.proofs.Common.{◌≡◌, ℕ, zero, suc, ◌+◌, ◌<◌, ◌≤◌, Bool, true, false, cond, Option, Some, List, [], ◌∷◌, ◌++◌, length, refl, ap, ◌∙◌, inl, inr, arith}
use Rattle.std.specs.Prelude.{◌==◌, slice_get}
use Rattle.std.specs.Option.{option_map_or}
use Rattle.std.specs.List.{list_any}
use Rattle.std.proofs.lemmas.Bool.Decides.{nat_tests}
use Rattle.std.proofs.lemmas.Bool.{or_parts, cases_lt}
use Rattle.std.proofs.lemmas.Option.{none-some, slice_get_within}
use Rattle.lits.specs.declared.node.Node.{Node}
use Rattle.netlist.specs.Net.{AigPair}
use Rattle.lemma_book.specs.declared.entry.Entry.{Entry}
use Rattle.keep_lemmas.specs.Kept.{entry_stays, stays_among, stays, count_before, at_places}

-- ---- which places stay

module _ (net : AigPair) (t : Node → Bool) (entries : List Entry) where
  pub among-below : (n i : ℕ) → stays_among net t entries n i ≡ true → i < n
  among-below zero i e = cc
  among-below (suc n) i e = go (i == n) refl (among-below n i)
    where
      go : (b : Bool) → (i == n) ≡ b → (stays_among net t entries n i ≡ true → i < n) → i < suc n
      go true f rest = grind (arith, nat_tests, f)
      go false f rest = let l : i < n = rest (rw f at e) in omega arith

  -- the later ones don't count
  among-next : (n i : ℕ) → i < n → stays_among net t entries (suc n) i ≡ stays_among net t entries n i
  among-next n i l = let f : (i == n) ≡ false = grind (arith, nat_tests, l) in rw f refl

  among-more : (m n i : ℕ) → i < n → n ≤ m → stays_among net t entries m i ≡ stays_among net t entries n i
  among-more zero n i l within = absurd (omega arith)
  among-more (suc m) n i l within = elim (cases_lt m n) [
    | inl less ↦ let e : suc m ≡ n = omega arith in ap (λ (k : ℕ). stays_among net t entries k i) e
    | inr more ↦ among-next m i (omega arith) ∙ among-more m n i l more
  ]

  -- one of the first n stays where it does among all
  pub stays-among : (n i : ℕ) → n ≤ length entries → i < n → stays net t entries i ≡ stays_among net t entries n i
  stays-among n i within l = among-more (length entries) n i l within

  -- the entry at place n stays by those before it
  pub stays-at_place : (n : ℕ) (e : Entry) → slice_get entries n ≡ Some e → stays net t entries n ≡ entry_stays net t (stays_among net t entries n) e
  stays-at_place n e at =
      let inside = slice_get_within entries n e at in
      let same : (n == n) ≡ true = grind (arith, nat_tests) in
      stays-among (suc n) n (omega (arith, inside)) (omega arith)
      ∙ ap (λ (b : Bool). cond b (option_map_or (entry_stays net t (stays_among net t entries n)) (slice_get entries n) false) (stays_among net t entries n n)) same
      ∙ ap (λ (o : Option Entry). option_map_or (entry_stays net t (stays_among net t entries n)) o false) at

-- ---- elements at chosen places

abbrev one_if : Bool → ℕ
one_if b = cond b 1 0

-- counted from the front
count-front : (set : ℕ → Bool) (n : ℕ) → count_before set (suc n) ≡ one_if (set 0) + count_before (λ k. set (suc k)) n
count-front set zero = omega arith
count-front set (suc n) = let rest = count-front set n in omega (arith, rest)

-- what stands at a chosen place has so many before it
pub at_places-get : {X : Type 0} (set : ℕ → Bool) (xs : List X) (i : ℕ) (x : X) → set i ≡ true → slice_get xs i ≡ Some x
    → slice_get (at_places set xs) (count_before set i) ≡ Some x
at_places-get set [] i x e at = absurd (none-some x at)
at_places-get set (y ∷ ys) zero x e at = rw e at
at_places-get {X} set (y ∷ ys) (suc i) x e at = go (set 0) refl (at_places-get (λ k. set (suc k)) ys i x e at)
  where
    later : ℕ → Bool
    later k = set (suc k)

    go : (b : Bool) → set 0 ≡ b → slice_get (at_places later ys) (count_before later i) ≡ Some x
        → slice_get (cond b (y ∷ at_places later ys) (at_places later ys)) (count_before set (suc i)) ≡ Some x
    go true f rest =
        let here : one_if (set 0) ≡ 1 = ap one_if f in
        let front = count-front set i in
        let place : count_before set (suc i) ≡ suc (count_before later i) = omega (arith, front, here) in
        ap (slice_get (y ∷ at_places later ys)) place ∙ rest
    go false f rest =
        let here : one_if (set 0) ≡ 0 = ap one_if f in
        let front = count-front set i in
        let place : count_before set (suc i) ≡ count_before later i = omega (arith, front, here) in
        ap (slice_get (at_places later ys)) place ∙ rest

-- so many are chosen
pub at_places-length : {X : Type 0} (set : ℕ → Bool) (xs : List X) → length (at_places set xs) ≡ count_before set (length xs)
at_places-length set [] = refl
at_places-length {X} set (x ∷ xs) = go (set 0) refl (at_places-length (λ k. set (suc k)) xs)
  where
    later : ℕ → Bool
    later k = set (suc k)

    go : (b : Bool) → set 0 ≡ b → length (at_places later xs) ≡ count_before later (length xs)
        → length (cond b (x ∷ at_places later xs) (at_places later xs)) ≡ count_before set (suc (length xs))
    go true f rest =
        let here : one_if (set 0) ≡ 1 = ap one_if f in
        let front = count-front set (length xs) in
        omega (arith, rest, front, here)
    go false f rest =
        let here : one_if (set 0) ≡ 0 = ap one_if f in
        let front = count-front set (length xs) in
        omega (arith, rest, front, here)

-- one element more
pub at_places-last : {X : Type 0} (set : ℕ → Bool) (xs : List X) (x : X)
    → at_places set (xs ++ x ∷ []) ≡ at_places set xs ++ cond (set (length xs)) (x ∷ []) []
at_places-last set [] x = refl
at_places-last {X} set (y ∷ ys) x = go (set 0) (at_places-last (λ k. set (suc k)) ys x)
  where
    later : ℕ → Bool
    later k = set (suc k)

    last : List X
    last = cond (set (suc (length ys))) (x ∷ []) []

    go : (b : Bool) → at_places later (ys ++ x ∷ []) ≡ at_places later ys ++ last
        → cond b (y ∷ at_places later (ys ++ x ∷ [])) (at_places later (ys ++ x ∷ [])) ≡ cond b (y ∷ at_places later ys) (at_places later ys) ++ last
    go true e = ap (λ (l : List X). y ∷ l) e
    go false e = e

-- what no element passes, no chosen one passes
pub at_places-none : {X : Type 0} (set : ℕ → Bool) (test : X → Bool) (xs : List X) → list_any test xs ≡ false → list_any test (at_places set xs) ≡ false
at_places-none set test [] e = refl
at_places-none {X} set test (x ∷ xs) e =
    let both = or_parts (test x) (list_any test xs) e in
    go (set 0) both.0 (at_places-none (λ k. set (suc k)) test xs both.1)
  where
    later : ℕ → Bool
    later k = set (suc k)

    go : (b : Bool) → test x ≡ false → list_any test (at_places later xs) ≡ false → list_any test (cond b (x ∷ at_places later xs) (at_places later xs)) ≡ false
    go true f rest = rw (f, rest) refl
    go false f rest = rest
