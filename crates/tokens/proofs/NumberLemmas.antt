-- The size that a word writes, by the number that stands in front.
use Rattle.std.proofs.Common.{◌≡◌, ℕ, ◌<◌, ◌≤◌, Bool, true, false, eqb, List, [], ◌∷◌, Option, Some, None, length, refl, sym, ap, ◌∙◌, arith}
use Rattle.std.specs.Prelude.{if◌then◌else◌}
use Rattle.std.proofs.lemmas.Bool.{eqb-true}
use Rattle.byte_scan.specs.Scanning.{digits, value, number_of}
use Rattle.byte_scan.proofs.Facts.{is_number-whole, is_number-other}
use Rattle.tokens.specs.Numbers.{size_in}

-- a word that is longer than its digits in front writes no size
pub size_in-part : (word : List ℕ) → length (digits word) < length word → size_in word ≡ None
size_in-part word lt = rw (is_number-other word lt) refl

-- and none where no digit stands in front
pub size_in-none : (word : List ℕ) → ◌≡◌ {A = Option ℕ} None (number_of word) → size_in word ≡ None
size_in-none [] e = refl
size_in-none (b ∷ bs) e = go (eqb (length (digits (b ∷ bs))) 0) refl e
  where
    go : (t : Bool) → eqb (length (digits (b ∷ bs))) 0 ≡ t
        → ◌≡◌ {A = Option ℕ} None (if t then None else Some (value (digits (b ∷ bs))))
        → size_in (b ∷ bs) ≡ None
    go true f g = let none = eqb-true _ _ f in size_in-part (b ∷ bs) (omega arith)
    go false f g = cc

pub size_in-number : (word : List ℕ) (size : ℕ) → Some size ≡ number_of word
    → length word ≤ length (digits word) → size_in word ≡ Some size
size_in-number [] size e le = let f : ◌≡◌ {A = Option ℕ} (Some size) None = e in cc
size_in-number (b ∷ bs) size e le = go (eqb (length (digits (b ∷ bs))) 0) refl e
  where
    go : (t : Bool) → eqb (length (digits (b ∷ bs))) 0 ≡ t
        → Some size ≡ (if t then None else Some (value (digits (b ∷ bs))))
        → size_in (b ∷ bs) ≡ Some size
    go true f g = cc
    go false f g =
        let whole = is_number-whole (b ∷ bs) (omega arith) le in
        rw whole.0 (ap (λ (w : List ℕ). Some (value w)) (sym whole.1) ∙ sym g)
