-- Words that are numbers, by the digits in front.
use Rattle.std.proofs.Common.{◌≡◌, ℕ, ◌<◌, ◌≤◌, Bool, true, false, cond, ltb, List, [], ◌∷◌, length, Option, Some, None, refl, ap, lt-ltb, arith}
use Rattle.std.specs.List.{list_all}
use Rattle.std.specs.Char.{is_ascii_digit}
use Rattle.byte_scan.specs.Scanning.{digits}
use Rattle.byte_scan.specs.HeaderLine.{is_number}

pub all_digits : (w : List ℕ) → length w ≤ length (digits w) → (list_all is_ascii_digit w ≡ true) × (digits w ≡ w)
all_digits [] le = (refl, refl)
all_digits (b ∷ bs) le = go (is_ascii_digit b) refl (all_digits bs)
  where
    go : (t : Bool) → is_ascii_digit b ≡ t → (length bs ≤ length (digits bs) → (list_all is_ascii_digit bs ≡ true) × (digits bs ≡ bs)) → (list_all is_ascii_digit (b ∷ bs) ≡ true) × (digits (b ∷ bs) ≡ b ∷ bs)
    go true e rest =
        let front : digits (b ∷ bs) ≡ b ∷ digits bs = rw e refl in
        let both = rest (omega (arith, ap length front)) in
        (rw (e, both.0) refl, rw (e, both.1) refl)
    go false e rest = let front : digits (b ∷ bs) ≡ [] = rw e refl in absurd (omega (arith, ap length front))

other_byte : (w : List ℕ) → length (digits w) < length w → list_all is_ascii_digit w ≡ false
other_byte [] lt = absurd (omega arith)
other_byte (b ∷ bs) lt = go (is_ascii_digit b) refl (other_byte bs)
  where
    go : (t : Bool) → is_ascii_digit b ≡ t → (length (digits bs) < length bs → list_all is_ascii_digit bs ≡ false) → list_all is_ascii_digit (b ∷ bs) ≡ false
    go true e rest =
        let front : digits (b ∷ bs) ≡ b ∷ digits bs = rw e refl in
        rw (e, rest (omega (arith, ap length front))) refl
    go false e rest = rw e refl

-- a word that isn't empty and is as long as its digits in front is a number
pub is_number-whole : (w : List ℕ) → 0 < length w → length w ≤ length (digits w) → (is_number w ≡ true) × (digits w ≡ w)
is_number-whole w long le =
    let all = all_digits w le in
    let some : ltb 0 (length w) ≡ true = lt-ltb _ _ long in
    (rw (all.0, some) refl, all.1)

-- an empty word is none, and no word that is longer than its digits in front
pub is_number-empty : (w : List ℕ) → length w ≡ 0 → is_number w ≡ false
is_number-empty [] e = refl
is_number-empty (b ∷ bs) e = absurd (omega arith)

pub is_number-other : (w : List ℕ) → length (digits w) < length w → is_number w ≡ false
is_number-other w lt = rw (other_byte w lt) refl

-- what the answer of `whole_number` says of the word
pub answer_none : (b : Bool) (x : ℕ) → ◌≡◌ {A = Option ℕ} None (cond b (Some x) None) → b ≡ false
answer_none true x e = absurd (cc)
answer_none false x e = refl

pub answer_some : (b : Bool) (x y : ℕ) → ◌≡◌ {A = Option ℕ} (Some y) (cond b (Some x) None) → (b ≡ true) × (y ≡ x)
answer_some true x y e = (refl, cc)
answer_some false x y e = absurd (cc)
