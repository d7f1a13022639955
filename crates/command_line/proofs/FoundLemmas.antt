-- The first element of a list that passes a test.
use Rattle.std.proofs.Common.{◌≡◌, ◌&&◌, refl, subst, Bool, true, false, List, [], ◌∷◌, Some, find}
use Rattle.std.specs.List.{AllByRecursion, list_all, list_any}

-- what holds of each element holds of the one that is found
pub found_passes : {X : Type 0} (p q : X → Bool) (xs : List X) (x : X) → list_all q xs ≡ true → find p xs ≡ Some x → q x ≡ true
found_passes p q [] x all found = cc
found_passes p q (y ∷ ys) x all found = go (q y) refl (p y) refl (found_passes p q ys x)
  where
    go : (b : Bool) → q y ≡ b → (d : Bool) → p y ≡ d → (list_all q ys ≡ true → find p ys ≡ Some x → q x ≡ true) → q x ≡ true
    go false qy d py more = let bad : (false && list_all q ys) ≡ true = rw qy at all in cc
    go true qy true py more = let same : Some y ≡ Some x = rw py at found in cc
    go true qy false py more = more (rw qy at all) (rw py at found)

-- where no element passes, the one that is found doesn't
pub found_fails : {X : Type 0} (p q : X → Bool) (xs : List X) (x : X) → list_any q xs ≡ false → find p xs ≡ Some x → q x ≡ false
found_fails p q [] x none found = cc
found_fails p q (y ∷ ys) x none found = go (q y) refl (p y) refl (found_fails p q ys x)
  where
    go : (b : Bool) → q y ≡ b → (d : Bool) → p y ≡ d → (list_any q ys ≡ false → find p ys ≡ Some x → q x ≡ false) → q x ≡ false
    go true qy d py more = let bad : true ≡ false = rw qy at none in cc
    go false qy true py more = let same : Some y ≡ Some x = rw py at found in cc
    go false qy false py more = more (rw qy at none) (rw py at found)

pub found_holds : {X : Type 0} (P : X → Type 0) (p : X → Bool) (xs : List X) (x : X) → AllByRecursion P xs → find p xs ≡ Some x → P x
found_holds P p [] x all found = cc
found_holds P p (y ∷ ys) x all found = go (p y) refl (found_holds P p ys x all.1)
  where
    go : (b : Bool) → p y ≡ b → (find p ys ≡ Some x → P x) → P x
    go true is more =
        let first : Some y ≡ Some x = rw is at found in
        let same : y ≡ x = cc in
        subst P same all.0
    go false is more = more (rw is at found)

-- the one that is found passes
pub found_test : {X : Type 0} (p : X → Bool) (xs : List X) (x : X) → find p xs ≡ Some x → p x ≡ true
found_test p [] x found = cc
found_test p (y ∷ ys) x found = go (p y) refl (found_test p ys x)
  where
    go : (b : Bool) → p y ≡ b → (find p ys ≡ Some x → p x ≡ true) → p x ≡ true
    go true is more =
        let first : Some y ≡ Some x = rw is at found in
        let same : y ≡ x = cc in
        rw (← same) is
    go false is more = more (rw is at found)
