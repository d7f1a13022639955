-- Bits of words: under a mask, of an AND, and words that are written one after another.
use Rattle.std.proofs.Common.{◌≡◌, ◌∙◌, ◌≢◌, ℕ, ◌+◌, ◌*◌, ◌/◌, ◌%◌, ◌^◌, ◌-◌, ◌<◌, ◌≤◌, ◌==◌, ◌&&◌, ◌⊎◌, nat_lt, min, Bool, true, false, List, length, refl, ap, inl, inr, slice_set}
use native.Mathlib.Omega.{arith}
use Rattle.std.specs.List.{slice_index_or}
use Rattle.std.specs.Int.{bit_at}
use Rattle.std.specs.Int.RustNames.{bit_and, bit_xor}
use Rattle.std.proofs.lemmas.Bool.{cases_lt, lt-ltb, le-ltb, ltb-true, ltb_from_iff}
use Rattle.std.proofs.lemmas.List.{length-set, get_or-set_same, get_or-set_other}
use Rattle.std.proofs.lemmas.Nat.Bits.{bit_at_and, bit_at_xor, bit_at_ones, bit_at_ones_above, bit_at-lt, bit_at-zero}
use Rattle.word_sim.specs.Patterns.{is_set, words_of}
use Rattle.word_sim.specs.Rows.{HasBits, mask_of, turned}

-- a comparison, either way
pub less : (a b : ℕ) → ((nat_lt a b ≡ true) × (a < b)) ⊎ ((nat_lt a b ≡ false) × (b ≤ a))
less a b = elim (cases_lt a b) [ inl h ↦ inl (lt-ltb a b h, h) | inr h ↦ inr (le-ltb a b h, h) ]

-- two comparisons that come to the same
pub lt-same : (a b c d : ℕ) → (a < b → c < d) → (c < d → a < b) → nat_lt a b ≡ nat_lt c d
lt-same a b c d to from = ltb_from_iff (λ h. to (ltb-true a b h), λ h. lt-ltb a b (from h))

-- a word under a mask of its first k bits
pub masked : (word k b : ℕ) → is_set (bit_and word (2 ^ k - 1)) b ≡ (nat_lt b k && is_set word b)
masked word k b = elim (less b k) [
  | inl p ↦
      let one : min (bit_at word b) 1 ≡ bit_at word b = omega (arith, bit_at-lt word b) in
      rw (bit_at_and word (2 ^ k - 1) b, bit_at_ones k b p.1, p.0, one) refl
  | inr p ↦
      let none : min (bit_at word b) 0 ≡ 0 = omega arith in
      rw (bit_at_and word (2 ^ k - 1) b, bit_at_ones_above k b p.1, p.0, none) refl
]

-- the last word under a mask of the bits that so many values leave for it
pub tail-cleared : (count : ℕ) (words : List ℕ) → count % 64 ≢ 0 → length words ≡ words_of count → (w b : ℕ) → w < length words → b < 64
    → is_set (slice_index_or (slice_set words (count / 64) (bit_and (slice_index_or words (count / 64) 0) (2 ^ (count % 64) - 1))) w 0) b
    ≡ (nat_lt (64 * w + b) count && is_set (slice_index_or words w 0) b)
tail-cleared count words rest size w b inside within = elim (cases_lt w (count / 64)) [
  | inl less ↦
      let whole : nat_lt (64 * w + b) count ≡ true = lt-same (64 * w + b) count 0 1 (λ _. omega arith) (λ _. omega arith) in
      rw (get_or-set_other words (count / 64) w _ 0 (λ e. absurd (omega (arith, e))), whole) refl
  | inr more ↦
      let same : w ≡ count / 64 = omega arith in
      let test : nat_lt b (count % 64) ≡ nat_lt (64 * (count / 64) + b) count = lt-same _ _ _ _ (λ h. omega arith) (λ h. omega arith) in
      rw (
        same,
        get_or-set_same words (count / 64) (bit_and (slice_index_or words (count / 64) 0) (2 ^ (count % 64) - 1)) 0 (omega arith),
        masked (slice_index_or words (count / 64) 0) (count % 64) b,
        test,
      ) refl
]

-- the words before n are written, those behind stay
pub record IsWritten (word : ℕ → ℕ) (old : List ℕ) (n : ℕ) (new : List ℕ) : Type 0 where
  pub size : length new ≡ length old
  pub written : (k : ℕ) → k < n → slice_index_or new k 0 ≡ word k

pub written-next : (word : ℕ → ℕ) (old : List ℕ) (n : ℕ) (now : List ℕ) (value : ℕ) → IsWritten word old n now → n < length now
    → value ≡ word n → IsWritten word old (n + 1) (slice_set now n value)
written-next word old n now value so inside is = record {
  size = length-set now n value ∙ so.size;
  written = λ k below. elim (cases_lt k n) [
    | inl less ↦ get_or-set_other now n k value 0 (λ e. absurd (omega (arith, e))) ∙ so.written k less
    | inr more ↦ let same : k ≡ n = omega arith in rw same (get_or-set_same now n value 0 inside ∙ is)
  ];
}

-- the word of all bits
pub all-set : (b : ℕ) → b < 64 → is_set 18446744073709551615 b ≡ true
all-set b within = ap (λ k. k == 1) (bit_at_ones 64 b within)

-- a bit is 0 or 1
bit-cases : (word b : ℕ) → (bit_at word b ≡ 0) ⊎ (bit_at word b ≡ 1)
bit-cases word b = elim (cases_lt (bit_at word b) 1) [ inl h ↦ inl (omega arith) | inr h ↦ inr (omega (arith, bit_at-lt word b)) ]

pub and-bit : (x y b : ℕ) → is_set (bit_and x y) b ≡ (is_set x b && is_set y b)
and-bit x y b = rw (bit_at_and x y b) (elim (bit-cases x b) [
  | inl p ↦ let none : min (bit_at x b) (bit_at y b) ≡ 0 = omega (arith, p) in rw (none, p) refl
  | inr p ↦ let same : min (bit_at x b) (bit_at y b) ≡ bit_at y b = omega (arith, p, bit_at-lt y b) in rw (same, p) refl
])

pub turned-bit : (word : ℕ) (neg : Bool) (b : ℕ) → b < 64 → is_set (bit_xor word (mask_of neg)) b ≡ turned neg (is_set word b)
turned-bit word false b within =
    let same : (bit_at word b + 0) % 2 ≡ bit_at word b = omega (arith, bit_at-lt word b) in
    rw (bit_at_xor word 0 b, bit_at-zero b, same) refl
turned-bit word true b within = rw (bit_at_xor word 18446744073709551615 b, bit_at_ones 64 b within) (elim (bit-cases word b) [
  | inl p ↦ rw p refl
  | inr p ↦ rw p refl
])

-- the bits of an AND of two rows of values
pub gate-bits : (count : ℕ) (f g : ℕ → Bool) (left right both words : List ℕ) (turn-left turn-right : Bool)
    → HasBits count f left → HasBits count g right → length both ≡ words_of count → length words ≡ length both
    → ((w : ℕ) → w < length both → slice_index_or both w 0
    ≡ bit_and (bit_xor (slice_index_or left w 0) (mask_of turn-left)) (bit_xor (slice_index_or right w 0) (mask_of turn-right)))
    → ((w b : ℕ) → w < length both → b < 64 → is_set (slice_index_or words w 0) b ≡ (nat_lt (64 * w + b) count && is_set (slice_index_or both w 0) b))
    → HasBits count (λ p. turned turn-left (f p) && turned turn-right (g p)) words
gate-bits count f g left right both words turn-left turn-right first second size same each cleared = record {
  size = same ∙ size;
  bits = λ w b inside within.
      let there : w < length both = omega arith in
      cleared w b there within ∙ elim (less (64 * w + b) count) [
        | inl p ↦
            let one : is_set (slice_index_or left w 0) b ≡ f (64 * w + b) = first.bits w b (omega (arith, first.size, size)) within ∙ ap (λ t. t && f (64 * w + b)) p.0 in
            let two : is_set (slice_index_or right w 0) b ≡ g (64 * w + b) = second.bits w b (omega (arith, second.size, size)) within ∙ ap (λ t. t && g (64 * w + b)) p.0 in
            let all = ap (λ k. is_set k b) (each w there)
            ∙ and-bit (bit_xor (slice_index_or left w 0) (mask_of turn-left)) (bit_xor (slice_index_or right w 0) (mask_of turn-right)) b
            ∙ ap (λ t. t && is_set (bit_xor (slice_index_or right w 0) (mask_of turn-right)) b) (turned-bit (slice_index_or left w 0) turn-left b within ∙ ap (turned turn-left) one)
            ∙ ap (λ t. turned turn-left (f (64 * w + b)) && t) (turned-bit (slice_index_or right w 0) turn-right b within ∙ ap (turned turn-right) two) in
            rw p.0 all
        | inr p ↦ rw p.0 refl
      ];
}
