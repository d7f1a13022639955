-- Lists whose elements are turned in place, one after the other.
use Rattle.std.proofs.Common.{◌≡◌, ℕ, zero, suc, ◌+◌, ◌<◌, List, [], ◌∷◌, ◌++◌, length, map, take, drop, get_or, set, refl, ap, sym, ◌∙◌, add-one, arith}

module _ {X : Type 0} (f : X → X) where
  -- the first so many elements are turned
  abbrev pub turned : ℕ → List X → List X
  turned i xs = map f (take i xs) ++ drop i xs

  -- the next element is as it was
  turned-element : (xs : List X) (i : ℕ) (d : X) → get_or (turned i xs) i d ≡ get_or xs i d
  turned-element [] zero d = refl
  turned-element [] (suc i) d = refl
  turned-element (x ∷ xs) zero d = refl
  turned-element (x ∷ xs) (suc i) d = turned-element xs i d

  turned-suc : (xs : List X) (i : ℕ) (d : X) → i < length xs → set (turned i xs) i (f (get_or xs i d)) ≡ turned (suc i) xs
  turned-suc [] i d below = absurd (omega arith)
  turned-suc (x ∷ xs) zero d below = refl
  turned-suc (x ∷ xs) (suc i) d below = ap (λ (l : List X). f x ∷ l) (turned-suc xs i d (omega arith))

  -- one element more is turned
  pub turned-more : (xs now : List X) (i : ℕ) (d y : X) → i < length xs → now ≡ turned i xs → y ≡ f (get_or now i d)
      → set now i y ≡ turned (i + 1) xs
  turned-more xs now i d y below is turns =
      ap (λ (l : List X). set l i y) is
      ∙ ap (λ (z : X). set (turned i xs) i z) (turns ∙ ap (λ (l : List X). f (get_or l i d)) is ∙ ap f (turned-element xs i d))
      ∙ turned-suc xs i d below
      ∙ ap (λ (k : ℕ). turned k xs) (sym (add-one i))
