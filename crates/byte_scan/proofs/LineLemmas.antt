-- A line as the search for its LF gives it.
use Rattle.std.proofs.Common.{◌≡◌, ℕ, zero, suc, ◌<◌, false, eqb, List, [], ◌∷◌, length, take, refl, ap, arith}
use Rattle.std.proofs.lemmas.Bool.{false_from_ne_true}
use Rattle.memchr.specs.Find.{Nowhere, Passes, is_byte}
use Rattle.byte_scan.specs.Scanning.{line_of}

-- behind the first byte the same test fails at the same places
later : (b : ℕ) (bs : List ℕ) (j : ℕ) → Nowhere (Passes (is_byte 10) (b ∷ bs)) 0 (suc j) → Nowhere (Passes (is_byte 10) bs) 0 j
later b bs j none k low high p = none (suc k) (omega arith) (omega arith) p

front : (b : ℕ) (bs : List ℕ) (j : ℕ) → Nowhere (Passes (is_byte 10) (b ∷ bs)) 0 (suc j) → eqb b 10 ≡ false
front b bs j none = false_from_ne_true (eqb b 10) (λ p. none 0 (omega arith) (omega arith) p)

pub line_of-no_end : (bytes : List ℕ) → Nowhere (Passes (is_byte 10) bytes) 0 (length bytes) → line_of bytes ≡ bytes
line_of-no_end [] none = refl
line_of-no_end (b ∷ bs) none =
    rw (front b bs (length bs) none) (ap (λ (l : List ℕ). b ∷ l) (line_of-no_end bs (later b bs (length bs) none)))

pub line_of-end : (bytes : List ℕ) (k : ℕ) → k < length bytes → Nowhere (Passes (is_byte 10) bytes) 0 k → Passes (is_byte 10) bytes k → line_of bytes ≡ take k bytes
line_of-end [] k lt none here = absurd (omega arith)
line_of-end (b ∷ bs) zero lt none here = rw here refl
line_of-end (b ∷ bs) (suc k) lt none here =
    rw (front b bs k none) (ap (λ (l : List ℕ). b ∷ l) (line_of-end bs k (omega arith) (later b bs k none) here))
