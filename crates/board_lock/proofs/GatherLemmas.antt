-- Lists that are gathered from the elements of a list, of which at most one has any.
use Rattle.std.proofs.Common.{◌≡◌, ◌≢◌, ℕ, zero, suc, List, [], ◌∷◌, ◌++◌, set, sym, refl, ap, ◌∙◌, arith}
use Rattle.std.specs.List.{flat_map}
use Rattle.std.proofs.lemmas.List.{append-nil}
use mathlib.Core.Option.{some, some-injective, some-ne-none}
use lib.ListN.{get_elem?}

module _ {V X : Type 0} (f : V → List X) where
  gather-none : (vs : List V) → ((j : ℕ) (u : V) → get_elem? vs j ≡ some u → f u ≡ []) → flat_map f vs ≡ []
  gather-none [] o = refl
  gather-none (x ∷ xs) o = rw (o 0 x refl) (gather-none xs (λ j u a. o (suc j) u a))

  -- the others have none
  pub gather-one : (vs : List V) (id : ℕ) (v : V) → get_elem? vs id ≡ some v
      → ((j : ℕ) (u : V) → j ≢ id → get_elem? vs j ≡ some u → f u ≡ []) → flat_map f vs ≡ f v
  gather-one [] id v e o = absurd (some-ne-none v (sym e))
  gather-one (x ∷ xs) zero v e o =
      rw (gather-none xs (λ j u a. o (suc j) u (λ z. omega arith) a)) (append-nil (f x) ∙ ap f (some-injective x v e))
  gather-one (x ∷ xs) (suc id) v e o =
      rw (o 0 x (λ z. omega arith) refl) (gather-one xs id v e (λ j u n a. o (suc j) u (λ z. n (omega arith)) a))

  pub gather-same : (vs : List V) (id : ℕ) (v w : V) → get_elem? vs id ≡ some v → f w ≡ f v
      → flat_map f (set vs id w) ≡ flat_map f vs
  gather-same [] id v w e h = refl
  gather-same (x ∷ xs) zero v w e h = ap (λ (ys : List X). ys ++ flat_map f xs) (h ∙ ap f (sym (some-injective x v e)))
  gather-same (x ∷ xs) (suc id) v w e h = ap (λ (ys : List X). f x ++ ys) (gather-same xs id v w e h)

  pub gather-snoc : (vs : List V) (w : V) → f w ≡ [] → flat_map f (vs ++ w ∷ []) ≡ flat_map f vs
  gather-snoc [] w h = rw h refl
  gather-snoc (x ∷ xs) w h = ap (λ (ys : List X). f x ++ ys) (gather-snoc xs w h)
