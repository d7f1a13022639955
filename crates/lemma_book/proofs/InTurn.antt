-- What holds of each element of a list in turn, and of the element at each place.
use Rattle.std.proofs.Common.{◌≡◌, ℕ, zero, suc, List, [], ◌∷◌, ◌++◌, take, Some, refl, sym, subst, append_assoc}
use Rattle.std.specs.Prelude.{slice_get}
use Rattle.std.proofs.lemmas.List.{append-nil}
use Rattle.std.proofs.lemmas.Option.{none-some, same_Some}
use Rattle.unit_prop.specs.Log.{InTurn}

-- what holds of each element in turn holds of the one at a place
pub in_turn-at : {X : Type 0} (P : List X → X → Type 0) (before xs : List X) (k : ℕ) (x : X) → InTurn P before xs → slice_get xs k ≡ Some x
    → P (before ++ take k xs) x
in_turn-at P before [] k x all e = absurd (none-some x e)
in_turn-at P before (y ∷ ys) zero x all e =
    let same = same_Some y x e in
    subst (λ (b : List _). P b x) (sym (append-nil before)) (subst (P before) same all.0)
in_turn-at P before (y ∷ ys) (suc k) x all e =
    subst (λ (b : List _). P b x) (append_assoc before (y ∷ []) (take k ys)) (in_turn-at P (before ++ y ∷ []) ys k x all.1 e)

-- and what holds of the one at each place holds in turn
pub in_turn-each : {X : Type 0} (P : List X → X → Type 0) (before xs : List X)
    → ((k : ℕ) (x : X) → slice_get xs k ≡ Some x → P (before ++ take k xs) x) → InTurn P before xs
in_turn-each P before [] each = tt
in_turn-each P before (x ∷ xs) each = (
  subst (λ (b : List _). P b x) (append-nil before) (each 0 x refl),
  in_turn-each P (before ++ x ∷ []) xs
      (λ k y at. subst (λ (b : List _). P b y) (sym (append_assoc before (x ∷ []) (take k xs))) (each (suc k) y at)),
)
