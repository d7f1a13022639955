-- Lists of which some elements go and to which others come, while the rest stays in its order.
use Rattle.std.proofs.Common.{◌≡◌, ℕ, zero, suc, ◌<◌, Bool, true, false, cond, Some, List, [], ◌∷◌, ◌++◌, map, refl, sym, ◌∙◌, subst, arith}
use Rattle.std.specs.Prelude.{slice_get}
use Rattle.std.specs.List.{filter}
use Rattle.std.proofs.lemmas.Option.{none-some, same_Some}

-- xs becomes ys: elements come, and no element goes that passes the test
pub data Stays {X : Type 0} (p : X → Bool) : List X → List X → Type 0 where
  end : Stays p [] []
  both : (x : X) (xs ys : List X) → Stays p xs ys → Stays p (x ∷ xs) (x ∷ ys)
  comes : (y : X) (xs ys : List X) → Stays p xs ys → Stays p xs (y ∷ ys)
  goes : (x : X) (xs ys : List X) → p x ≡ false → Stays p xs ys → Stays p (x ∷ xs) ys

pub all-stay : {X : Type 0} (p : X → Bool) (xs : List X) → Stays p xs xs
all-stay p [] = end
all-stay p (x ∷ xs) = both x xs xs (all-stay p xs)

pub stays-then : {X : Type 0} {p : X → Bool} {xs ys zs : List X} → Stays p xs ys → Stays p ys zs → Stays p xs zs
stays-then s end = s
stays-then s (comes z _ zs t) = comes z _ zs (stays-then s t)
stays-then (both x xs _ s) (both _ _ zs t) = both x xs zs (stays-then s t)
stays-then (comes x xs _ s) (both _ _ zs t) = comes x xs zs (stays-then s t)
stays-then (goes w ws _ f s) (both x ys zs t) = goes w ws (x ∷ zs) f (stays-then s (both x ys zs t))
stays-then (both x xs _ s) (goes _ _ zs e t) = goes x xs zs e (stays-then s t)
stays-then (comes _ _ _ s) (goes _ _ zs e t) = stays-then s t
stays-then (goes w ws _ f s) (goes x ys zs e t) = goes w ws zs f (stays-then s (goes x ys zs e t))

-- a test that fewer elements pass
pub stays-fewer : {X : Type 0} {p q : X → Bool} {xs ys : List X} → ((x : X) → p x ≡ false → q x ≡ false) → Stays p xs ys → Stays q xs ys
stays-fewer f end = end
stays-fewer f (both x xs ys s) = both x xs ys (stays-fewer f s)
stays-fewer f (comes y xs ys s) = comes y xs ys (stays-fewer f s)
stays-fewer f (goes x xs ys e s) = goes x xs ys (f x e) (stays-fewer f s)

pub stays-map : {X Y : Type 0} {p : X → Bool} (q : Y → Bool) (f : X → Y) {xs ys : List X} → ((x : X) → p x ≡ q (f x)) → Stays p xs ys
    → Stays q (map f xs) (map f ys)
stays-map q f same end = end
stays-map q f same (both x xs ys s) = both (f x) (map f xs) (map f ys) (stays-map q f same s)
stays-map q f same (comes y xs ys s) = comes (f y) (map f xs) (map f ys) (stays-map q f same s)
stays-map q f same (goes x xs ys e s) = goes (f x) (map f xs) (map f ys) (sym (same x) ∙ e) (stays-map q f same s)

pub stays-append : {X : Type 0} {p : X → Bool} {xs ys vs ws : List X} → Stays p xs ys → Stays p vs ws → Stays p (xs ++ vs) (ys ++ ws)
stays-append end t = t
stays-append (both x xs ys s) t = both x _ _ (stays-append s t)
stays-append (comes y xs ys s) t = comes y _ _ (stays-append s t)
stays-append (goes x xs ys e s) t = goes x _ _ e (stays-append s t)

-- one more element somewhere
pub stays-one_more : {X : Type 0} (p : X → Bool) (xs ys : List X) (x : X) → Stays p (xs ++ ys) (xs ++ x ∷ ys)
stays-one_more p [] ys x = comes x ys ys (all-stay p ys)
stays-one_more p (y ∷ xs) ys x = both y _ _ (stays-one_more p xs ys x)

-- the elements that pass another test
pub stays-filter : {X : Type 0} (p q : X → Bool) → ((x : X) → q x ≡ false → p x ≡ false) → (xs : List X) → Stays p xs (filter q xs)
stays-filter p q f [] = end
stays-filter {X} p q f (x ∷ xs) = go (q x) refl (stays-filter p q f xs)
  where
    go : (b : Bool) → q x ≡ b → Stays p xs (filter q xs) → Stays p (x ∷ xs) (cond b (x ∷ filter q xs) (filter q xs))
    go true e rest = both x xs (filter q xs) rest
    go false e rest = goes x xs (filter q xs) (f x e) rest

-- some elements in another one's place
pub stays-swap : {X : Type 0} (p q : X → Bool) (y : X) → ((x : X) → q x ≡ true → p x ≡ false) → (xs : List X)
    → Stays p xs (map (λ x. cond (q x) y x) xs)
stays-swap p q y f [] = end
stays-swap {X} p q y f (x ∷ xs) = go (q x) refl (stays-swap p q y f xs)
  where
    after : List X
    after = map (λ x. cond (q x) y x) xs

    go : (b : Bool) → q x ≡ b → Stays p xs after → Stays p (x ∷ xs) (cond b y x ∷ after)
    go true e rest = goes x xs (y ∷ after) (f x e) (comes y xs after rest)
    go false e rest = both x xs after rest

-- where an element stands that stays
pub record PlaceIn {X : Type 0} (ys : List X) (x : X) : Type 0 where
  pub place : ℕ
  pub at : slice_get ys place ≡ Some x

-- where two elements stand that stay
pub record PlacesIn {X : Type 0} (ys : List X) (x y : X) : Type 0 where
  pub first : ℕ
  pub second : ℕ
  pub before : first < second
  pub at_first : slice_get ys first ≡ Some x
  pub at_second : slice_get ys second ≡ Some y

passes-not : {X : Type 0} (p : X → Bool) (x y : X) → Some x ≡ Some y → p x ≡ false → p y ≡ true → ⊥
passes-not p x y same e f = let g : p y ≡ false = subst (λ (z : _). p z ≡ false) (same_Some x y same) e in cc

-- an element that passes the test is there still
pub stays-at : {X : Type 0} {p : X → Bool} {xs ys : List X} (i : ℕ) (x : X) → Stays p xs ys → slice_get xs i ≡ Some x → p x ≡ true → PlaceIn ys x
stays-at i x end at pass = absurd (none-some x at)
stays-at zero x (both w xs ys s) at pass = record { place = 0; at = at }
stays-at (suc i) x (both w xs ys s) at pass = let r = stays-at i x s at pass in record { place = suc r.place; at = r.at }
stays-at i x (comes y xs ys s) at pass = let r = stays-at i x s at pass in record { place = suc r.place; at = r.at }
stays-at {X} {p} zero x (goes w xs ys e s) at pass = absurd (passes-not p w x at e pass)
stays-at (suc i) x (goes w xs ys e s) at pass = stays-at i x s at pass

-- two elements that pass the test are in their order still
pub stays-before : {X : Type 0} {p : X → Bool} {xs ys : List X} (i j : ℕ) (x y : X) → Stays p xs ys → slice_get xs i ≡ Some x → slice_get xs j ≡ Some y
    → i < j → p x ≡ true → p y ≡ true → PlacesIn ys x y
stays-before i j x y end one two less pass other = absurd (none-some x one)
stays-before i zero x y (both w xs ys s) one two less pass other = absurd (omega arith)
stays-before zero (suc j) x y (both w xs ys s) one two less pass other =
    let r = stays-at j y s two other in
    record { first = 0; second = suc r.place; before = omega arith; at_first = one; at_second = r.at }
stays-before (suc i) (suc j) x y (both w xs ys s) one two less pass other =
    let r = stays-before i j x y s one two (omega arith) pass other in
    record { first = suc r.first; second = suc r.second; before = omega (arith, r.before); at_first = r.at_first; at_second = r.at_second }
stays-before i j x y (comes w xs ys s) one two less pass other =
    let r = stays-before i j x y s one two less pass other in
    record { first = suc r.first; second = suc r.second; before = omega (arith, r.before); at_first = r.at_first; at_second = r.at_second }
stays-before i zero x y (goes w xs ys e s) one two less pass other = absurd (omega arith)
stays-before {X} {p} zero (suc j) x y (goes w xs ys e s) one two less pass other = absurd (passes-not p w x one e pass)
stays-before (suc i) (suc j) x y (goes w xs ys e s) one two less pass other = stays-before i j x y s one two (omega arith) pass other
