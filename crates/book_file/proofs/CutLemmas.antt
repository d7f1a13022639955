-- The parts of a text, by the first byte that parts them.
use Rattle.std.proofs.Common.{◌≡◌, ℕ, zero, suc, ◌+◌, ◌<◌, Bool, false, eqb, None, List, [], ◌∷◌, length, take, drop, refl, arith}
use Rattle.std.specs.List.{slice_split}
use Rattle.std.proofs.lemmas.Bool.{false_from_ne_true}
use Rattle.std.proofs.lemmas.List.Splits.{length-slice_split}
use Rattle.memchr.specs.Find.{Nowhere, Passes, is_byte}
use Rattle.book_file.specs.Words.{pair_of}

module _ (a : ℕ) where
  -- behind the first byte the same test fails at the same places
  later : (b : ℕ) (bs : List ℕ) (j : ℕ) → Nowhere (Passes (is_byte a) (b ∷ bs)) 0 (suc j) → Nowhere (Passes (is_byte a) bs) 0 j
  later b bs j none k low high p = none (suc k) (omega arith) (omega arith) p

  front : (b : ℕ) (bs : List ℕ) (j : ℕ) → Nowhere (Passes (is_byte a) (b ∷ bs)) 0 (suc j) → eqb b a ≡ false
  front b bs j none = false_from_ne_true (eqb b a) (λ p. none 0 (omega arith) (omega arith) p)

  pub split_whole : (bytes : List ℕ) → Nowhere (Passes (is_byte a) bytes) 0 (length bytes)
      → slice_split (λ b. eqb b a) bytes ≡ bytes ∷ []
  split_whole [] none = refl
  split_whole (b ∷ bs) none = rw (front b bs (length bs) none, split_whole bs (later b bs (length bs) none)) refl

  split-behind : (bytes : List ℕ) (k : ℕ) → k < length bytes → Nowhere (Passes (is_byte a) bytes) 0 k → Passes (is_byte a) bytes k
      → slice_split (λ b. eqb b a) bytes ≡ take k bytes ∷ slice_split (λ b. eqb b a) (drop (suc k) bytes)
  split-behind [] k lt none here = absurd (omega arith)
  split-behind (b ∷ bs) zero lt none here = rw here refl
  split-behind (b ∷ bs) (suc k) lt none here =
      rw (front b bs k none, split-behind bs k (omega arith) (later b bs k none) here) refl

  pub split_first : (bytes : List ℕ) (k : ℕ) → k < length bytes → Nowhere (Passes (is_byte a) bytes) 0 k → Passes (is_byte a) bytes k
      → slice_split (λ b. eqb b a) bytes ≡ take k bytes ∷ slice_split (λ b. eqb b a) (drop (k + 1) bytes)
  split_first bytes k lt none here = let next : k + 1 ≡ suc k = omega arith in rw next (split-behind bytes k lt none here)

-- three parts aren't two
pub three_no_pair : (p : ℕ → Bool) (first second text : List ℕ) → pair_of (first ∷ second ∷ slice_split p text) ≡ None
three_no_pair p first second text = let count = length-slice_split p text in go (slice_split p text) (omega arith)
  where
    go : (ls : List (List ℕ)) → 0 < length ls → pair_of (first ∷ second ∷ ls) ≡ None
    go [] some = absurd (omega arith)
    go (l ∷ ls) some = refl
