-- Lists without repeats, and what a filter keeps of them.
use Rattle.std.proofs.Common.{◌≡◌, Bool, true, false, not, List, [], ◌∷◌, ◌++◌, map, filter, refl, ap, ◌∙◌}
use Rattle.std.specs.List.{AllByRecursion}
use Rattle.std.proofs.lemmas.List.Folds.{list_any-append}
use Rattle.std.proofs.lemmas.Bool.{and_parts, not-true, or_parts}
use Rattle.unit_prop.proofs.Facts.{contrary}
use Rattle.lits.specs.Clause.{has, no_repeat, firsts}

module _ {X : Type 0} (eq : X → X → Bool) where
  -- a list without repeats before another one, no element of which is among the first
  pub no_repeat-append : (xs ys : List X) → no_repeat eq xs ≡ true → no_repeat eq ys ≡ true
      → AllByRecursion (λ x. has eq ys x ≡ false) xs → no_repeat eq (xs ++ ys) ≡ true
  no_repeat-append [] ys p q apart = q
  no_repeat-append (x ∷ xs) ys p q apart =
      let parts = and_parts (not (has eq xs x)) (no_repeat eq xs) p in
      let new : has eq xs x ≡ false = not-true (has eq xs x) parts.0 in
      rw (list_any-append (λ y. eq y x) xs ys, new, apart.0, no_repeat-append xs ys parts.1 q apart.1) refl

  -- the last part of a list without repeats has none
  pub no_repeat-rest : (xs ys : List X) → no_repeat eq (xs ++ ys) ≡ true → no_repeat eq ys ≡ true
  no_repeat-rest [] ys p = p
  no_repeat-rest (x ∷ xs) ys p = no_repeat-rest xs ys (and_parts (not (has eq (xs ++ ys) x)) (no_repeat eq (xs ++ ys)) p).1

  -- a filter keeps only what is there
  pub has_from_filter : (test : X → Bool) (xs : List X) (q : X) → has eq xs q ≡ false → has eq (filter test xs) q ≡ false
  has_from_filter test [] q none = refl
  has_from_filter test (x ∷ xs) q none = go (test x) refl (has_from_filter test xs q parts.1)
    where
      parts : (eq x q ≡ false) × (has eq xs q ≡ false)
      parts = or_parts (eq x q) (has eq xs q) none

      go : (b : Bool) → test x ≡ b → has eq (filter test xs) q ≡ false → has eq (filter test (x ∷ xs)) q ≡ false
      go true e rest = rw (e, parts.0) rest
      go false e rest = rw e rest

  pub no_repeat-filter : (test : X → Bool) (xs : List X) → no_repeat eq xs ≡ true → no_repeat eq (filter test xs) ≡ true
  no_repeat-filter test [] p = refl
  no_repeat-filter test (x ∷ xs) p = go (test x) refl (no_repeat-filter test xs parts.1)
    where
      parts : (not (has eq xs x) ≡ true) × (no_repeat eq xs ≡ true)
      parts = and_parts (not (has eq xs x)) (no_repeat eq xs) p

      go : (b : Bool) → test x ≡ b → no_repeat eq (filter test xs) ≡ true → no_repeat eq (filter test (x ∷ xs)) ≡ true
      go true e rest = rw (e, has_from_filter test xs x (not-true (has eq xs x) parts.0), rest) refl
      go false e rest = rw e rest

  -- a clause without repeats is what stays of it
  pub firsts-once : (xs : List X) → no_repeat eq xs ≡ true → ((x y : X) → eq x y ≡ eq y x) → firsts eq xs ≡ xs
  firsts-once [] p flips = refl
  firsts-once (x ∷ xs) p flips =
      let parts = and_parts (not (has eq xs x)) (no_repeat eq xs) p in
      rw (firsts-once xs parts.1 flips) (ap (λ (l : List X). x ∷ l) (kept xs (not-true (has eq xs x) parts.0)))
    where
      kept : (ys : List X) → has eq ys x ≡ false → filter (λ y. not (eq x y)) ys ≡ ys
      kept [] none = refl
      kept (y ∷ ys) none = go (eq x y) refl (kept ys split.1)
        where
          split : (eq y x ≡ false) × (has eq ys x ≡ false)
          split = or_parts (eq y x) (has eq ys x) none

          go : (b : Bool) → eq x y ≡ b → filter (λ z. not (eq x z)) ys ≡ ys → filter (λ z. not (eq x z)) (y ∷ ys) ≡ y ∷ ys
          go true e rest = contrary (eq y x) (flips y x ∙ e) split.0
          go false e rest = rw e (ap (λ (l : List X). y ∷ l) rest)

-- a function that tells elements apart as `other` does makes no repeats
pub no_repeat-map : {X Y : Type 0} (eq : Y → Y → Bool) (other : X → X → Bool) (f : X → Y) → ((x y : X) → eq (f x) (f y) ≡ other x y)
    → (xs : List X) → no_repeat eq (map f xs) ≡ no_repeat other xs
no_repeat-map eq other f same [] = refl
no_repeat-map {X} eq other f same (x ∷ xs) = rw (has-map xs, no_repeat-map eq other f same xs) refl
  where
    has-map : (ys : List X) → has eq (map f ys) (f x) ≡ has other ys x
    has-map [] = refl
    has-map (y ∷ ys) = rw (same y x, has-map ys) refl

-- no element that f makes is q
pub has-map-none : {X Y : Type 0} (eq : Y → Y → Bool) (f : X → Y) (q : Y) → ((x : X) → eq (f x) q ≡ false) → (xs : List X)
    → has eq (map f xs) q ≡ false
has-map-none eq f q apart [] = refl
has-map-none eq f q apart (x ∷ xs) = rw (apart x, has-map-none eq f q apart xs) refl

-- what holds of all that f makes
pub all-made : {X Y : Type 0} (P : Y → Type 0) (f : X → Y) → ((x : X) → P (f x)) → (xs : List X) → AllByRecursion P (map f xs)
all-made P f each [] = tt
all-made P f each (x ∷ xs) = (each x, all-made P f each xs)

-- two tests that agree on a list keep the same of it
pub filter-agree : {X : Type 0} (p q : X → Bool) (xs : List X) → AllByRecursion (λ x. p x ≡ q x) xs → filter p xs ≡ filter q xs
filter-agree p q [] same = refl
filter-agree {X} p q (x ∷ xs) same = go (q x) refl (filter-agree p q xs same.1)
  where
    go : (b : Bool) → q x ≡ b → filter p xs ≡ filter q xs → filter p (x ∷ xs) ≡ filter q (x ∷ xs)
    go true e rest = rw (same.0, e) (ap (λ (l : List X). x ∷ l) rest)
    go false e rest = rw (same.0, e) rest

pub filter-nothing : {X : Type 0} (xs : List X) → filter (λ x. false) xs ≡ []
filter-nothing [] = refl
filter-nothing (x ∷ xs) = filter-nothing xs

pub all-filtered : {X : Type 0} (P : X → Type 0) (test : X → Bool) (xs : List X) → AllByRecursion (λ x. test x ≡ true → P x) xs
    → AllByRecursion P (filter test xs)
all-filtered P test [] all = tt
all-filtered P test (x ∷ xs) all = go (test x) refl (all-filtered P test xs all.1)
  where
    go : (b : Bool) → test x ≡ b → AllByRecursion P (filter test xs) → AllByRecursion P (filter test (x ∷ xs))
    go true e rest = rw e (all.0 e, rest)
    go false e rest = rw e rest

pub filter-same : {X : Type 0} (p q : X → Bool) → ((x : X) → p x ≡ q x) → (xs : List X) → filter p xs ≡ filter q xs
filter-same {X} p q same xs = filter-agree p q xs (all xs)
  where
    all : (ys : List X) → AllByRecursion (λ x. p x ≡ q x) ys
    all [] = tt
    all (y ∷ ys) = (same y, all ys)
