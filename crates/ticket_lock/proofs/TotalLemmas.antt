-- Totals over a list of which one element changes, is cut in two, or takes in another.
use Rattle.std.proofs.Common.{◌≡◌, ◌≢◌, ℕ, zero, suc, ◌+◌, ◌<◌, ◌≤◌, List, [], ◌∷◌, ◌++◌, length, set, sym, refl, ap, subst, ◌⊎◌, inl, inr, ⊎_elim, arith}
use mathlib.Core.Option.{some, some-injective, some-ne-none}
use lib.ListN.{get_elem?}
use Rattle.atomic_table.proofs.Lists.{at_set, at_snoc}
use Rattle.ticket_lock.specs.Totals.{total, Each}

module _ {V : Type 0} where
  -- ---- one element changes, or one more comes

  pub total-set : (f : V → ℕ) (vs : List V) (id : ℕ) (v w : V) → get_elem? vs id ≡ some v
      → total f (set vs id w) + f v ≡ total f vs + f w
  total-set f [] id v w e = absurd (some-ne-none v (sym e))
  total-set f (x ∷ xs) zero v w e = let h : f x ≡ f v = ap f (some-injective x v e) in omega arith
  total-set f (x ∷ xs) (suc id) v w e = let h = total-set f xs id v w e in omega arith

  total-snoc : (f : V → ℕ) (vs : List V) (w : V) → total f (vs ++ w ∷ []) ≡ total f vs + f w
  total-snoc f [] w = omega arith
  total-snoc f (x ∷ xs) w = let h = total-snoc f xs w in omega arith

  pub total-keep : (f : V → ℕ) (vs : List V) (id : ℕ) (v w : V) → get_elem? vs id ≡ some v → f w ≡ f v
      → total f (set vs id w) ≡ total f vs
  total-keep f vs id v w e h = let t = total-set f vs id v w e in omega arith

  pub total-cut : (f : V → ℕ) (vs : List V) (id : ℕ) (v l r : V) → get_elem? vs id ≡ some v → f l + f r ≡ f v
      → total f (set vs id l ++ r ∷ []) ≡ total f vs
  total-cut f vs id v l r e h =
      let t = total-set f vs id v l e in
      let s = total-snoc f (set vs id l) r in
      omega arith

  pub total-join : (f : V → ℕ) (vs : List V) (id other : ℕ) (v u b s : V) → get_elem? vs id ≡ some v
      → get_elem? (set vs id b) other ≡ some u → f b + f s ≡ f v + f u
      → total f (set (set vs id b) other s) ≡ total f vs
  total-join f vs id other v u b s e o h =
      let t = total-set f vs id v b e in
      let t' = total-set f (set vs id b) other u s o in
      omega arith

  -- ---- some elements' part of the total

  pub total-le : (f : V → ℕ) (vs : List V) (id : ℕ) (v : V) → get_elem? vs id ≡ some v → f v ≤ total f vs
  total-le f [] id v e = absurd (some-ne-none v (sym e))
  total-le f (x ∷ xs) zero v e = let h : f x ≡ f v = ap f (some-injective x v e) in omega arith
  total-le f (x ∷ xs) (suc id) v e = let h = total-le f xs id v e in omega arith

  pub total-two : (f : V → ℕ) (vs : List V) (i j : ℕ) (u v : V) → i ≢ j → get_elem? vs i ≡ some u
      → get_elem? vs j ≡ some v → f u + f v ≤ total f vs
  total-two f [] i j u v n a b = absurd (some-ne-none u (sym a))
  total-two f (x ∷ xs) zero zero u v n a b = absurd (n refl)
  total-two f (x ∷ xs) zero (suc j) u v n a b =
      let h : f x ≡ f u = ap f (some-injective x u a) in
      let k = total-le f xs j v b in
      omega arith
  total-two f (x ∷ xs) (suc i) zero u v n a b =
      let h : f x ≡ f v = ap f (some-injective x v b) in
      let k = total-le f xs i u a in
      omega arith
  total-two f (x ∷ xs) (suc i) (suc j) u v n a b =
      let k = total-two f xs i j u v (λ e. n (ap suc e)) a b in
      omega arith

  pub total-none : (f : V → ℕ) (vs : List V) → ((j : ℕ) (u : V) → get_elem? vs j ≡ some u → f u ≡ 0)
      → total f vs ≡ 0
  total-none f [] o = refl
  total-none f (x ∷ xs) o =
      let h = o 0 x refl in
      let r = total-none f xs (λ j u a. o (suc j) u a) in
      omega arith

  -- the others have none
  pub total-alone : (f : V → ℕ) (vs : List V) (id : ℕ) (v : V) → get_elem? vs id ≡ some v
      → ((j : ℕ) (u : V) → j ≢ id → get_elem? vs j ≡ some u → f u ≡ 0) → total f vs ≡ f v
  total-alone f [] id v e o = absurd (some-ne-none v (sym e))
  total-alone f (x ∷ xs) zero v e o =
      let h : f x ≡ f v = ap f (some-injective x v e) in
      let r = total-none f xs (λ j u a. o (suc j) u (λ z. omega arith) a) in
      omega arith
  total-alone f (x ∷ xs) (suc id) v e o =
      let h = o 0 x (λ z. omega arith) refl in
      let r = total-alone f xs id v e (λ j u n a. o (suc j) u (λ z. n (omega arith)) a) in
      omega arith

  pub total-most : (f g : V → ℕ) (vs : List V) → Each (λ v. f v ≤ g v) vs → total f vs ≤ total g vs
  total-most f g [] h = omega arith
  total-most f g (x ∷ xs) h =
      let a = h 0 x refl in
      let r = total-most f g xs (λ j u e. h (suc j) u e) in
      omega arith

  pub total-plus : (f g : V → ℕ) (vs : List V) → total (λ v. f v + g v) vs ≡ total f vs + total g vs
  total-plus f g [] = omega arith
  total-plus f g (x ∷ xs) = let h = total-plus f g xs in omega arith

  -- ---- what holds of each element

  pub each-set : (P : V → Type 0) (vs : List V) (id : ℕ) (w : V) → P w
      → ((j : ℕ) (u : V) → j ≢ id → get_elem? vs j ≡ some u → P u) → Each P (set vs id w)
  each-set P vs id w mine others j u e =
      ⊎_elim (λ (x : (j ≡ id) × (w ≡ u)). subst P x.1 mine)
      (λ (x : (j ≢ id) × (get_elem? vs j ≡ some u)). others j u x.0 x.1) (at_set vs id j w u e)

  -- an element after the change is one of the two new ones, or stood there before
  abbrev pub Stays : List V → V → V → ℕ → V → Type 0
  Stays vs a b j u = ((a ≡ u) ⊎ (b ≡ u)) ⊎ (get_elem? vs j ≡ some u)

  from-set : (vs : List V) (id : ℕ) (w : V) (j : ℕ) (u : V) → get_elem? (set vs id w) j ≡ some u
      → (w ≡ u) ⊎ (get_elem? vs j ≡ some u)
  from-set vs id w j u e =
      ⊎_elim (λ (x : (j ≡ id) × (w ≡ u)). inl x.1)
      (λ (x : (j ≢ id) × (get_elem? vs j ≡ some u)). inr x.1) (at_set vs id j w u e)

  pub from-cut : (vs : List V) (id : ℕ) (l r : V) (j : ℕ) (u : V)
      → get_elem? (set vs id l ++ r ∷ []) j ≡ some u → Stays vs l r j u
  from-cut vs id l r j u e = ⊎_elim
      (λ (x : get_elem? (set vs id l) j ≡ some u).
      ⊎_elim (λ (y : l ≡ u). inl (inl y)) (λ (y : get_elem? vs j ≡ some u). inr y) (from-set vs id l j u x))
      (λ (x : r ≡ u). inl (inr x))
      (at_snoc (set vs id l) r u j e)

  pub from-join : (vs : List V) (id other : ℕ) (b s : V) (j : ℕ) (u : V)
      → get_elem? (set (set vs id b) other s) j ≡ some u → Stays vs b s j u
  from-join vs id other b s j u e = ⊎_elim
      (λ (x : s ≡ u). inl (inr x))
      (λ (x : get_elem? (set vs id b) j ≡ some u).
      ⊎_elim (λ (y : b ≡ u). inl (inl y)) (λ (y : get_elem? vs j ≡ some u). inr y) (from-set vs id b j u x))
      (from-set (set vs id b) other s j u e)

  pub each-from : (P : V → Type 0) (vs vs' : List V) (a b : V) → P a → P b → Each P vs
      → ((j : ℕ) (u : V) → get_elem? vs' j ≡ some u → Stays vs a b j u) → Each P vs'
  each-from P vs vs' a b pa pb each from j u e = ⊎_elim
      (λ (x : (a ≡ u) ⊎ (b ≡ u)). ⊎_elim (λ (y : a ≡ u). subst P y pa) (λ (y : b ≡ u). subst P y pb) x)
      (λ (x : get_elem? vs j ≡ some u). each j u x) (from j u e)

  pub each-one : (P : V → Type 0) (v : V) → P v → Each P (v ∷ [])
  each-one P v p zero u e = subst P (some-injective v u e) p
  each-one P v p (suc j) u e = absurd (some-ne-none u (sym e))

  pub within : (vs : List V) (i : ℕ) (v : V) → get_elem? vs i ≡ some v → i < length vs
  within [] i v e = absurd (some-ne-none v (sym e))
  within (x ∷ xs) zero v e = omega arith
  within (x ∷ xs) (suc i) v e = let h = within xs i v e in omega arith
