-- The first word of a line, by the place of the first space.
use Rattle.std.proofs.Common.{◌≡◌, ℕ, ◌+◌, ◌<◌, ◌≤◌, Bool, true, false, cond, ltb, List, [], ◌∷◌, Option, Some, None, length, take, drop, refl, ap, ◌∙◌, arith}
use Rattle.std.specs.Prelude.{position}
use Rattle.std.specs.List.{slice_split, position_or_len}
use Rattle.std.proofs.lemmas.Bool.{ltb-true, ltb-false}
use Rattle.std.proofs.lemmas.List.Splits.{slice_split_first}

-- what the place of the first that passes says
found_at : (p : ℕ → Bool) (xs : List ℕ) (i : ℕ) → position p xs ≡ Some i
    → (position_or_len p xs < length xs) × (position_or_len p xs ≡ i)
found_at p xs i e = go (ltb (position_or_len p xs) (length xs)) refl e
  where
    go : (t : Bool) → ltb (position_or_len p xs) (length xs) ≡ t
        → cond t (Some (position_or_len p xs)) None ≡ Some i
        → (position_or_len p xs < length xs) × (position_or_len p xs ≡ i)
    go true f g = (ltb-true _ _ f, cc)
    go false f g = cc

-- the part before the first that passes, and the parts of what is behind it
pub split-first : (p : ℕ → Bool) (xs : List ℕ) (i : ℕ) → position p xs ≡ Some i
    → slice_split p xs ≡ take i xs ∷ slice_split p (drop (i + 1) xs)
split-first p xs i e =
    let found = found_at p xs i e in
    slice_split_first p xs 0 found.0
    ∙ ap (λ (k : ℕ). take k xs ∷ slice_split p (drop (k + 1) xs)) found.1

-- where none passes the end is the first place
found_nowhere : (p : ℕ → Bool) (xs : List ℕ) → ◌≡◌ {A = Option ℕ} (position p xs) None → length xs ≤ position_or_len p xs
found_nowhere p xs e = go (ltb (position_or_len p xs) (length xs)) refl e
  where
    go : (t : Bool) → ltb (position_or_len p xs) (length xs) ≡ t
        → ◌≡◌ {A = Option ℕ} (cond t (Some (position_or_len p xs)) None) None → length xs ≤ position_or_len p xs
    go true f g = cc
    go false f g = ltb-false _ _ f

whole : (p : ℕ → Bool) (xs : List ℕ) → length xs ≤ position_or_len p xs → slice_split p xs ≡ xs ∷ []
whole p [] l = refl
whole p (x ∷ xs) l = go (p x) refl (whole p xs)
  where
    go : (t : Bool) → p x ≡ t → (length xs ≤ position_or_len p xs → slice_split p xs ≡ xs ∷ []) → slice_split p (x ∷ xs) ≡ (x ∷ xs) ∷ []
    go true t rest =
        let none : position_or_len p (x ∷ xs) ≡ 0 = rw t refl in
        absurd (omega (arith, l, none))
    go false t rest =
        let more : position_or_len p (x ∷ xs) ≡ 1 + position_or_len p xs = rw t refl in
        let behind : length xs ≤ position_or_len p xs = omega (arith, l, more) in
        rw (t, rest behind) refl

-- where none passes the list is the one part
pub split-whole : (p : ℕ → Bool) (xs : List ℕ) → ◌≡◌ {A = Option ℕ} (position p xs) None → slice_split p xs ≡ xs ∷ []
split-whole p xs e = whole p xs (found_nowhere p xs e)
