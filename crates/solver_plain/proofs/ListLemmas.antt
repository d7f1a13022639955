-- What tests of literals find in lists, and what holds of each element of a list.
use Rattle.std.proofs.Common.{◌≡◌, ◌<◌, ◌≤◌, length, arith, Bool, true, false, not, List, [], ◌∷◌, ◌++◌, Some, None, refl, sym, ap, ◌∙◌, subst, ◌⊎◌, inl, inr}
use Rattle.std.specs.Prelude.{filter}
use Rattle.std.specs.List.{list_any, list_all, find, AllByRecursion}
use Rattle.std.proofs.lemmas.Bool.{or_cases, or_left, or_right, and_parts, not-true}
use Rattle.std.proofs.Math.Bool.{and-false}
use Rattle.lits.specs.Clause.{has, firsts, no_repeat}
use Rattle.lits.proofs.Facts.{IsLiteral, has-firsts}
use Rattle.unit_prop.proofs.Facts.{has-head, has-filter, all-at}

pub all-each : {X : Type 0} (P Q : X → Type 0) (xs : List X) → ((x : X) → P x → Q x) → AllByRecursion P xs → AllByRecursion Q xs
all-each P Q [] f all = tt
all-each P Q (x ∷ xs) f all = (f x all.0, all-each P Q xs f all.1)

pub all-left : {X : Type 0} (P : X → Type 0) (xs ys : List X) → AllByRecursion P (xs ++ ys) → AllByRecursion P xs
all-left P [] ys all = tt
all-left P (x ∷ xs) ys all = (all.0, all-left P xs ys all.1)

-- no element passes a test exactly where each fails it
pub all-fail : {X : Type 0} (p : X → Bool) (xs : List X) → list_any p xs ≡ false → AllByRecursion (λ x. p x ≡ false) xs
all-fail p [] e = tt
all-fail p (x ∷ xs) e = go (p x) refl (all-fail p xs)
  where
    go : (b : Bool) → p x ≡ b → (list_any p xs ≡ false → AllByRecursion (λ x. p x ≡ false) xs)
        → AllByRecursion (λ x. p x ≡ false) (x ∷ xs)
    go true f rest = let g : true ≡ false = rw f at e in cc
    go false f rest = (f, rest (rw f at e))

pub none-passes : {X : Type 0} (p : X → Bool) (xs : List X) → AllByRecursion (λ x. p x ≡ false) xs → list_any p xs ≡ false
none-passes p [] all = refl
none-passes p (x ∷ xs) all = let h : p x ≡ false = all.0 in rw h (none-passes p xs all.1)

-- fewer elements pass a test that is passed less, and by one of them not
pub filter-le : {X : Type 0} (p q : X → Bool) (xs : List X) → ((x : X) → q x ≡ true → p x ≡ true)
    → length (filter q xs) ≤ length (filter p xs)
filter-le p q [] less = omega arith
filter-le p q (x ∷ xs) less = go (p x) (q x) refl refl (filter-le p q xs less)
  where
    go : (a b : Bool) → p x ≡ a → q x ≡ b → length (filter q xs) ≤ length (filter p xs)
        → length (filter q (x ∷ xs)) ≤ length (filter p (x ∷ xs))
    go true true e f rest = rw (e, f) (omega arith)
    go true false e f rest = rw (e, f) (omega arith)
    go false true e f rest = let h = less x f in cc
    go false false e f rest = rw (e, f) rest

module _ {L : Type 0} {eq : L → L → Bool} {opposite : L → L} (laws : IsLiteral eq opposite) where
  pub filter-lt : (p q : L → Bool) (xs : List L) (l : L) → ((x : L) → q x ≡ true → p x ≡ true)
      → has eq xs l ≡ true → p l ≡ true → q l ≡ false → length (filter q xs) < length (filter p xs)
  filter-lt p q [] l less h a b = cc
  filter-lt p q (x ∷ xs) l less h a b = go (p x) (q x) refl refl (or_cases (eq x l) (has eq xs l) h) (λ e. filter-lt p q xs l less e a b)
    where
      go : (c d : Bool) → p x ≡ c → q x ≡ d → (eq x l ≡ true) ⊎ (has eq xs l ≡ true)
          → (has eq xs l ≡ true → length (filter q xs) < length (filter p xs))
          → length (filter q (x ∷ xs)) < length (filter p (x ∷ xs))
      go c d e f (inl same) rest =
          let here = laws.exact x l same in
          let pe : p x ≡ true = ap p here ∙ a in
          let qe : q x ≡ false = ap q here ∙ b in
          rw (pe, qe) (let k = filter-le p q xs less in omega arith)
      go true true e f (inr there) rest = rw (e, f) (let k = rest there in omega arith)
      go true false e f (inr there) rest = rw (e, f) (let k = rest there in omega arith)
      go false true e f (inr there) rest = let k = less x f in cc
      go false false e f (inr there) rest = rw (e, f) (rest there)

  pub list_all-not : (p : L → Bool) (xs : List L) (l : L) → has eq xs l ≡ true → p l ≡ false → list_all p xs ≡ false
  list_all-not p xs l h e = go (list_all p xs) refl
    where
      go : (b : Bool) → list_all p xs ≡ b → list_all p xs ≡ false
      go true f = let g = all-at laws p xs l f h in cc
      go false f = f

  pub each-at : (P : L → Type 0) (xs : List L) (l : L) → AllByRecursion P xs → has eq xs l ≡ true → P l
  each-at P [] l all h = cc
  each-at P (x ∷ xs) l all h =
      elim (or_cases (eq x l) (has eq xs l) h) [
        | inl e ↦ subst P (laws.exact x l e) all.0
        | inr e ↦ each-at P xs l all.1 e
      ]

  pub each-of : (P : L → Type 0) (xs : List L) → ((l : L) → has eq xs l ≡ true → P l) → AllByRecursion P xs
  each-of P [] each = tt
  each-of P (x ∷ xs) each = (each x (has-head laws x xs), each-of P xs (λ l h. each l (or_right (eq x l) _ h)))

  -- what is found passes, and is in the list
  pub find-some : (p : L → Bool) (xs : List L) (l : L) → find p xs ≡ Some l → (has eq xs l ≡ true) × (p l ≡ true)
  find-some p [] l e = let f : None ≡ Some l = e in cc
  find-some p (x ∷ xs) l e = go (p x) refl (find-some p xs l)
    where
      go : (b : Bool) → p x ≡ b → (find p xs ≡ Some l → (has eq xs l ≡ true) × (p l ≡ true))
          → (has eq (x ∷ xs) l ≡ true) × (p l ≡ true)
      go true f rest =
          let g : Some x ≡ Some l = rw f at e in
          let h : x ≡ l = cc in
          (or_left _ _ (ap (λ (z : L). eq z l) h ∙ laws.equivalence.refl l), sym (ap p h) ∙ f)
      go false f rest = let r = rest (rw f at e) in (or_right (eq x l) _ r.0, r.1)

  -- where nothing is found, nothing in the list passes
  pub find-none : (p : L → Bool) (xs : List L) (l : L) → find p xs ≡ None → has eq xs l ≡ true → p l ≡ false
  find-none p [] l e h = cc
  find-none p (x ∷ xs) l e h = go (p x) refl (or_cases (eq x l) (has eq xs l) h) (find-none p xs l)
    where
      go : (b : Bool) → p x ≡ b → (eq x l ≡ true) ⊎ (has eq xs l ≡ true)
          → (find p xs ≡ None → has eq xs l ≡ true → p l ≡ false) → p l ≡ false
      go true f where_is rest = let g : Some x ≡ None = rw f at e in cc
      go false f (inl same) rest = sym (ap p (laws.exact x l same)) ∙ f
      go false f (inr there) rest = rest (rw f at e) there

  firsts-same : (l : L) (xs : List L) → list_all (λ m. eq m l) xs ≡ true → (firsts eq xs ≡ []) ⊎ (firsts eq xs ≡ l ∷ [])
  firsts-same l [] all = inl refl
  firsts-same l (x ∷ xs) all =
      let both = and_parts (eq x l) (list_all (λ m. eq m l) xs) all in
      inr (go both.0 (laws.exact x l both.0) (firsts-same l xs both.1))
    where
      go : eq x l ≡ true → x ≡ l → (firsts eq xs ≡ []) ⊎ (firsts eq xs ≡ l ∷ []) → firsts eq (x ∷ xs) ≡ l ∷ []
      go e same (inl f) = rw f (ap (λ (z : L). z ∷ []) same)
      go e same (inr f) = rw (f, e) (ap (λ (z : L). z ∷ []) same)

  -- of a list that repeats one literal the first is left
  pub firsts-one : (l : L) (xs : List L) → list_all (λ m. eq m l) xs ≡ true → has eq xs l ≡ true → firsts eq xs ≡ l ∷ []
  firsts-one l xs all h = go (firsts-same l xs all)
    where
      go : (firsts eq xs ≡ []) ⊎ (firsts eq xs ≡ l ∷ []) → firsts eq xs ≡ l ∷ []
      go (inl e) = let f = sym (ap (λ (ys : List L). has eq ys l) e) ∙ has-firsts laws xs l ∙ h in cc
      go (inr e) = e

  -- a list without repeats is its own list of firsts
  pub firsts-once : (xs : List L) → no_repeat eq xs ≡ true → firsts eq xs ≡ xs
  firsts-once [] once = refl
  firsts-once (x ∷ xs) once =
      let both = and_parts _ _ once in
      rw (firsts-once xs both.1) (ap (λ (ys : List L). x ∷ ys) (keep xs (not-true _ both.0)))
    where
      keep : (ys : List L) → has eq ys x ≡ false → filter (λ y. not (eq x y)) ys ≡ ys
      keep [] e = refl
      keep (y ∷ ys) e = go (eq y x) refl (keep ys)
        where
          go : (b : Bool) → eq y x ≡ b → (has eq ys x ≡ false → filter (λ z. not (eq x z)) ys ≡ ys)
              → filter (λ z. not (eq x z)) (y ∷ ys) ≡ y ∷ ys
          go true f rest = let g : true ≡ false = rw f at e in cc
          go false f rest =
              let g : eq x y ≡ false = laws.equivalence.symm x y ∙ f in
              rw g (ap (λ (zs : List L). y ∷ zs) (rest (rw f at e)))

  pub no_repeat-filter : (p : L → Bool) (xs : List L) → no_repeat eq xs ≡ true → no_repeat eq (filter p xs) ≡ true
  no_repeat-filter p [] once = refl
  no_repeat-filter p (x ∷ xs) once =
      let both = and_parts _ _ once in
      go (p x) refl (not-true _ both.0) (no_repeat-filter p xs both.1)
    where
      go : (b : Bool) → p x ≡ b → has eq xs x ≡ false → no_repeat eq (filter p xs) ≡ true → no_repeat eq (filter p (x ∷ xs)) ≡ true
      go true e f rest =
          let none : has eq (filter p xs) x ≡ false = has-filter laws p xs x ∙ rw f refl in rw e (rw (none, rest) refl)
      go false e f rest = rw e rest

  pub once-firsts : (xs : List L) → no_repeat eq (firsts eq xs) ≡ true
  once-firsts [] = refl
  once-firsts (x ∷ xs) =
      let none : has eq (filter (λ y. not (eq x y)) (firsts eq xs)) x ≡ false =
      has-filter laws (λ y. not (eq x y)) (firsts eq xs) x ∙ rw (laws.equivalence.refl x) (and-false (has eq (firsts eq xs) x)) in
      rw (none, no_repeat-filter (λ y. not (eq x y)) (firsts eq xs) (once-firsts xs)) refl
