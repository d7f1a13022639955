-- Rows of values are alike exactly where the values are the same for all patterns, or opposite for all.
use Rattle.std.proofs.Common.{◌≡◌, ◌≢◌, ◌∙◌, ℕ, zero, suc, ◌+◌, ◌*◌, ◌-◌, ◌^◌, ◌/◌, ◌%◌, ◌<◌, ◌≤◌, ◌==◌, ◌&&◌, nat_lt, Bool, true, false, List, refl, sym, ap, ap₂, arith, add-one, inl, inr, if◌then◌else◌}
use Rattle.std.specs.List.{list_all, range_with_len, slice_index_or}
use Rattle.std.specs.Int.{bit_at}
use Rattle.std.specs.Int.RustNames.{bit_xor}
use Rattle.std.proofs.lemmas.Bool.Decides.{nat_tests}
use Rattle.std.proofs.lemmas.Bool.{cases_lt, and_parts}
use Rattle.std.proofs.lemmas.List.{get_or_past}
use Rattle.std.proofs.lemmas.Nat.Bits.{bit_at_ones, bit_at_ones_above, bit_at-lt, bit_at-zero, same_from_bits_below}
use Rattle.std.proofs.lemmas.Nat.{and_le_r}
use Rattle.std.proofs.Math.Pow.{pow-lt}
use Rattle.word_sim.specs.Patterns.{is_set, words_of}
use Rattle.word_sim.specs.Rows.{HasBits, mask_of, turned}
use Rattle.word_sim.proofs.Facts.{less, and-bit, turned-bit}
use Rattle.sig_classes.specs.Alike.{first_bit, filled_mask, normal_word, alike, mixed, hash_of_first, hash_of}
use Rattle.netlist.proofs.Facts.{equal-number}

-- tests of all numbers below n
all-below : (test : ℕ → Bool) (a n : ℕ) → list_all test (range_with_len a n) ≡ true → (k : ℕ) → a ≤ k → k < a + n → test k ≡ true
all-below test a zero all k from below = absurd (omega arith)
all-below test a (suc n) all k from below = elim (cases_lt a k) [
  | inl more ↦ all-below test (a + 1) n (and_parts (test a) _ all).1 k (omega arith) (omega arith)
  | inr here ↦ let same : a ≡ k = omega arith in ap test (sym same) ∙ (and_parts (test a) _ all).0
]

all-range : (test : ℕ → Bool) (a n : ℕ) → ((k : ℕ) → a ≤ k → k < a + n → test k ≡ true) → list_all test (range_with_len a n) ≡ true
all-range test a zero each = refl
all-range test a (suc n) each =
    rw (each a (omega arith) (omega arith)) (all-range test (a + 1) n (λ k from below. each k (omega arith) (omega arith)))

pub all-numbers : (test : ℕ → Bool) (n k : ℕ) → list_all test (range_with_len 0 n) ≡ true → k < n → test k ≡ true
all-numbers test n k all below = all-below test 0 n all k (omega arith) (omega arith)

pub each-number : (test : ℕ → Bool) (n : ℕ) → ((k : ℕ) → k < n → test k ≡ true) → list_all test (range_with_len 0 n) ≡ true
each-number test n each = all-range test 0 n (λ k from below. each k (omega arith))

pub same-numbers : (a b : ℕ) → a ≡ b → (a == b) ≡ true
same-numbers a b e = grind (arith, nat_tests)

-- alike rows have the same normal words
pub alike-words : (count : ℕ) (a b : List ℕ) → alike count a b ≡ true → (w : ℕ) → w < words_of count
    → normal_word count a w ≡ normal_word count b w
alike-words count a b all w below = equal-number _ _ (all-numbers (λ w. normal_word count a w == normal_word count b w) (words_of count) w all below)

pub words-alike : (count : ℕ) (a b : List ℕ) → ((w : ℕ) → w < words_of count → normal_word count a w ≡ normal_word count b w)
    → alike count a b ≡ true
words-alike count a b each = each-number (λ w. normal_word count a w == normal_word count b w) (words_of count) (λ w below. same-numbers _ _ (each w below))

pub alike-self : (count : ℕ) (a : List ℕ) → alike count a a ≡ true
alike-self count a = words-alike count a a (λ w below. refl)

pub alike-swap : (count : ℕ) (a b : List ℕ) → alike count a b ≡ true → alike count b a ≡ true
alike-swap count a b one = words-alike count b a (λ w below. sym (alike-words count a b one w below))

pub alike-join : (count : ℕ) (a b c : List ℕ) → alike count a b ≡ true → alike count b c ≡ true → alike count a c ≡ true
alike-join count a b c one two = words-alike count a c (λ w below. alike-words count a b one w below ∙ alike-words count b c two w below)

-- so they have the same hash
hash-same : (class : ℕ) (f g : ℕ → ℕ) (n : ℕ) → ((w : ℕ) → w < n → f w ≡ g w) → hash_of_first class f n ≡ hash_of_first class g n
unfolding hash_of_first
hash-same class f g zero same = refl
hash-same class f g (suc n) same = ap₂ mixed (hash-same class f g n (λ w below. same w (omega arith))) (same n (omega arith))

pub alike-hash : (class count : ℕ) (a b : List ℕ) → alike count a b ≡ true → hash_of class count a ≡ hash_of class count b
alike-hash class count a b one = hash-same class (normal_word count a) (normal_word count b) (words_of count) (alike-words count a b one)

-- the bits of a mask
mask-bits : (count w b : ℕ) → b < 64 → is_set (filled_mask count w) b ≡ nat_lt (64 * w + b) count
mask-bits count w b within = elim (less (count - 64 * w) 64) [
  | inl p ↦ elim (less (64 * w + b) count) [
    | inl q ↦ rw (p.0, bit_at_ones (count - 64 * w) b (omega (arith, q.1)), q.0) refl
    | inr q ↦ rw (p.0, bit_at_ones_above (count - 64 * w) b (omega (arith, q.1)), q.0) refl
  ]
  | inr p ↦
      let inside : nat_lt (64 * w + b) count ≡ true = grind (arith, nat_tests, p.1, within) in
      rw (p.0, inside) (ap (λ k. k == 1) (bit_at_ones 64 b within))
]

mask-below : (count w : ℕ) → filled_mask count w < 2 ^ 64
mask-below count w = go (nat_lt (count - 64 * w) 64) (λ t. grind (arith, nat_tests, t))
  where
    go : (b : Bool) → (b ≡ true → count - 64 * w < 64) → (if b then 2 ^ (count - 64 * w) - 1 else 18446744073709551615) < 2 ^ 64
    go true low = let l : 2 ^ (count - 64 * w) < 2 ^ 64 = pow-lt (low refl) in omega (arith, l)
    go false low = omega arith

module _ (count : ℕ) (f : ℕ → Bool) (row : List ℕ) (bits : HasBits count f row) where
  -- the first bit is the first value
  pub first-value : first_bit row ≡ (nat_lt 0 count && f 0)
  first-value = elim (less 0 count) [
    | inl p ↦ bits.bits 0 0 (omega (arith, bits.size, p.1)) (omega arith)
    | inr p ↦
        let none : slice_index_or row 0 0 ≡ 0 = get_or_past row 0 0 (omega (arith, bits.size, p.1)) in
        rw (none, p.0) (ap (λ k. k == 1) (bit_at-zero 0))
  ]

  -- the bits of its normal form
  pub normal-bits : (w b : ℕ) → w < words_of count → b < 64
      → is_set (normal_word count row w) b ≡ (nat_lt (64 * w + b) count && turned (first_bit row) (f (64 * w + b)))
  unfolding normal_word
  normal-bits w b below within =
      and-bit (bit_xor (slice_index_or row w 0) (mask_of (first_bit row))) (filled_mask count w) b
      ∙ ap₂ ◌&&◌ (turned-bit (slice_index_or row w 0) (first_bit row) b within ∙ ap (turned (first_bit row)) (bits.bits w b (omega (arith, bits.size)) within))
      (mask-bits count w b within)
      ∙ go (first_bit row) (nat_lt (64 * w + b) count) (f (64 * w + b))
    where
      go : (c t v : Bool) → (turned c (t && v) && t) ≡ (t && turned c v)
      go true true true = refl
      go true true false = refl
      go true false v = refl
      go false true true = refl
      go false true false = refl
      go false false v = refl

normal-below : (count : ℕ) (row : List ℕ) (w : ℕ) → normal_word count row w < 2 ^ 64
unfolding normal_word
normal-below count row w =
    omega (arith, and_le_r (bit_xor (slice_index_or row w 0) (mask_of (first_bit row))) (filled_mask count w), mask-below count w)

-- a bit, by its test
bit-test : (x y b : ℕ) → is_set x b ≡ is_set y b → bit_at x b ≡ bit_at y b
bit-test x y b same = grind (arith, nat_tests, bit_at-lt x b, bit_at-lt y b, same)

module _ (count : ℕ) (f g : ℕ → Bool) (a b : List ℕ) (first : HasBits count f a) (second : HasBits count g b) where
  -- alike rows: the values of both, turned by the first bits, are the same
  pub alike-values : alike count a b ≡ true → (p : ℕ) → p < count → turned (first_bit a) (f p) ≡ turned (first_bit b) (g p)
  alike-values one p below =
      let w = p / 64 in
      let k = p % 64 in
      let place : 64 * (p / 64) + p % 64 ≡ p = omega arith in
      let inside : nat_lt p count ≡ true = grind (arith, nat_tests, below) in
      let word : p / 64 < words_of count = omega arith in
      let left : is_set (normal_word count a (p / 64)) (p % 64) ≡ turned (first_bit a) (f p) =
      normal-bits count f a first (p / 64) (p % 64) word (omega arith) ∙ rw (place, inside) refl in
      let right : is_set (normal_word count b (p / 64)) (p % 64) ≡ turned (first_bit b) (g p) =
      normal-bits count g b second (p / 64) (p % 64) word (omega arith) ∙ rw (place, inside) refl in
      sym left ∙ ap (λ x. is_set x (p % 64)) (alike-words count a b one (p / 64) word) ∙ right

  pub values-alike : ((p : ℕ) → p < count → turned (first_bit a) (f p) ≡ turned (first_bit b) (g p)) → alike count a b ≡ true
  values-alike same = words-alike count a b (λ w below.
      same_from_bits_below 64 (normal_word count a w) (normal_word count b w) (normal-below count a w) (normal-below count b w)
      (λ k within. bit-test (normal_word count a w) (normal_word count b w) k (
      normal-bits count f a first w k below within
      ∙ elim (less (64 * w + k) count) [
        | inl p ↦ ap (λ (v : Bool). nat_lt (64 * w + k) count && v) (same (64 * w + k) p.1)
        | inr p ↦ rw p.0 refl
      ]
      ∙ sym (normal-bits count g b second w k below within))))

-- one word more
pub hash-next : (class : ℕ) (word : ℕ → ℕ) (n : ℕ) → hash_of_first class word (n + 1) ≡ mixed (hash_of_first class word n) (word n)
unfolding hash_of_first
hash-next class word n = ap (hash_of_first class word) (add-one n)

pub hash-none : (class : ℕ) (word : ℕ → ℕ) → hash_of_first class word 0 ≡ class
unfolding hash_of_first
hash-none class word = refl

-- a word that differs
pub word-differs : (count : ℕ) (a b : List ℕ) (w : ℕ) → w < words_of count → normal_word count a w ≢ normal_word count b w
    → alike count a b ≡ false
word-differs count a b w below other = go (alike count a b) refl
  where
    go : (t : Bool) → alike count a b ≡ t → t ≡ false
    go true e = absurd (other (alike-words count a b e w below))
    go false e = refl
