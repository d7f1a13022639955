-- Blocks of words, and what is a part of a pool.
use Rattle.std.proofs.Common.{◌≡◌, ◌∙◌, ℕ, ◌+◌, ◌*◌, ◌-◌, ◌/◌, ◌%◌, ◌<◌, ◌≤◌, ◌&&◌, ◌⊎◌, min, nat_lt, Bool, false, List, [], ◌∷◌, ◌++◌, length, take, drop, refl, sym, ap, ap₂, add-one, inl, inr, append_assoc, length-append, length-drop, length-take}
use native.Mathlib.Omega.{arith}
use native.Mathlib.Nat.{mul_comm}
use Rattle.std.proofs.Math.Nat.{suc-mul}
use Rattle.std.proofs.lemmas.Bool.{cases_lt, lt-ltb, le-ltb}
use Rattle.std.proofs.lemmas.Bool.Decides.{nat_tests}
use Rattle.std.specs.List.{slice_index_or}
use Rattle.std.specs.Int.{bit_at}
use Rattle.std.proofs.lemmas.List.FromFn.{fill_by_all, get_or-map-range_with_len, length-map-range_with_len}
use Rattle.std.proofs.lemmas.List.{append-nil, get_or_past, get_or_append_left, get_or-append-add, get_or-append_right, get_or-take, get_or-drop}
use Rattle.std.proofs.lemmas.Nat.Bits.{bit_at-lt, bit_at-zero}
use Rattle.word_sim.specs.Patterns.{Patterns, is_set, truth_of, words_of, first_words, part_from}
use Rattle.word_sim.specs.Storage.{drawn_patterns, added_patterns, IsClear, bit_of, IsBlock, AreBlocks}
use Rattle.word_sim.proofs.PoolLemmas.{added-pattern, drawn-pattern, map-range-same, row-inside, times-mono}

-- ---- words that are put one after another

pub block-none : (pool : Patterns) (word : ℕ) (old : List ℕ) → IsBlock pool word 0 old old
block-none pool word old =
    record { added = []; is = sym (append-nil old); size = refl; bits = λ i b below within. absurd (omega arith) }

pub block-next : (pool : Patterns) (word n : ℕ) (old now new : List ℕ) (value : ℕ) → IsBlock pool word n old now → new ≡ now ++ value ∷ []
    → ((b : ℕ) → b < 64 → is_set value b ≡ bit_of pool n (64 * word + b)) → IsBlock pool word (n + 1) old new
block-next pool word n old now new value s put is = record {
  added = s.added ++ value ∷ [];
  is = put ∙ ap (λ (xs : List ℕ). xs ++ value ∷ []) s.is ∙ append_assoc old s.added (value ∷ []);
  size = length-append s.added (value ∷ []) ∙ ap (λ (k : ℕ). k + 1) s.size;
  bits = λ i b below within. elim (cases_lt i n) [
    | inl less ↦ ap (λ (k : ℕ). is_set k b) (get_or_append_left s.added (value ∷ []) 0 i (omega (arith, s.size, less))) ∙ s.bits i b less within
    | inr more ↦
        let same : i ≡ n = omega arith in
        let place : i ≡ length s.added + 0 = omega (arith, same, s.size) in
        ap (λ (k : ℕ). is_set (slice_index_or (s.added ++ value ∷ []) k 0) b) place
        ∙ ap (λ (k : ℕ). is_set k b) (get_or-append-add s.added (value ∷ []) 0 0)
        ∙ is b within ∙ ap (λ (k : ℕ). bit_of pool k (64 * word + b)) (sym same)
  ];
}

pub blocks-next : (pool : Patterns) (from n : ℕ) (now new : List ℕ) → AreBlocks pool from n now
    → IsBlock pool (from + n) pool.inputs now new → AreBlocks pool from (n + 1) new
blocks-next pool from n now new s block =
    let one : (n + 1) * pool.inputs ≡ n * pool.inputs + pool.inputs = ap (λ (m : ℕ). m * pool.inputs) (add-one n) ∙ suc-mul n pool.inputs in
    let total : length new ≡ length now + length block.added = ap (λ (xs : List ℕ). length xs) block.is ∙ length-append now block.added in
    record {
      size = omega (arith, one, total, s.size, block.size);
      bits = λ w i b below inside within. ap (λ (xs : List ℕ). is_set (slice_index_or xs (w * pool.inputs + i) 0) b) block.is ∙ elim (cases_lt w n) [
        | inl less ↦
            ap (λ (k : ℕ). is_set k b) (get_or_append_left now block.added 0 (w * pool.inputs + i) (omega (arith, s.size, row-inside n pool.inputs w i less inside)))
            ∙ s.bits w i b less inside within
        | inr more ↦
            let same : w ≡ n = omega arith in
            let place : w * pool.inputs + i ≡ length now + i = ap (λ (k : ℕ). k * pool.inputs + i) same ∙ ap (λ (k : ℕ). k + i) (sym s.size) in
            ap (λ (k : ℕ). is_set (slice_index_or (now ++ block.added) k 0) b) place
            ∙ ap (λ (k : ℕ). is_set k b) (get_or-append-add now block.added i 0)
            ∙ block.bits i b inside within ∙ ap (λ (k : ℕ). bit_of pool i (64 * (from + k) + b)) (sym same)
      ];
    }

-- ---- the patterns that a pool's words spell have a value for each input

abbrev pub IsWhole : Patterns → Type 0
IsWhole pool = (k : ℕ) → k < length pool.patterns → length (slice_index_or pool.patterns k []) ≡ pool.inputs

pub all-whole : (inputs words : ℕ) (drawn : List ℕ) (count : ℕ) (added : List ℕ) (k : ℕ) → k < 64 * words + count
    → length (slice_index_or (drawn_patterns inputs words drawn ++ added_patterns inputs count added) k []) ≡ inputs
all-whole inputs words drawn count added k below =
    let size : length (drawn_patterns inputs words drawn) ≡ 64 * words = length-map-range_with_len (drawn-pattern inputs words drawn) 0 (64 * words) in
    elim (cases_lt k (64 * words)) [
      | inl less ↦
          let here : slice_index_or (drawn_patterns inputs words drawn ++ added_patterns inputs count added) k [] ≡ drawn-pattern inputs words drawn k =
          get_or_append_left (drawn_patterns inputs words drawn) (added_patterns inputs count added) [] k (omega (arith, size))
          ∙ get_or-map-range_with_len (drawn-pattern inputs words drawn) 0 (64 * words) k k [] less (omega arith) in
          ap (λ (bits : List Bool). length bits) here
          ∙ length-map-range_with_len (λ i. is_set (slice_index_or drawn (i * words + k / 64) 0) (k % 64)) 0 inputs
      | inr more ↦
          let left : k - 64 * words < count = omega arith in
          let here : slice_index_or (drawn_patterns inputs words drawn ++ added_patterns inputs count added) k [] ≡ added-pattern inputs added (k - 64 * words) =
          get_or-append_right (drawn_patterns inputs words drawn) (added_patterns inputs count added) (64 * words) k [] size more
          ∙ get_or-map-range_with_len (added-pattern inputs added) 0 count _ _ [] left (omega arith) in
          ap (λ (bits : List Bool). length bits) here
          ∙ length-map-range_with_len (λ i. is_set (slice_index_or added ((k - 64 * words) / 64 * inputs + i) 0) ((k - 64 * words) % 64)) 0 inputs
    ]

-- ---- the part

clear-bit : (x b : ℕ) → is_set x b ≡ false → bit_at x b ≡ 0
clear-bit x b none = grind (arith, nat_tests, bit_at-lt x b, none)

-- so many patterns behind some words: all that there are, or whole words
abbrev pub IsEnd : Patterns → ℕ → ℕ → Type 0
IsEnd pool from n = (length pool.patterns ≡ 64 * from + n) ⊎ (n % 64 ≡ 0)

-- the bits behind the last pattern
pub part-clear : (pool : Patterns) (from n : ℕ) (words : List ℕ) → AreBlocks pool from (words_of n) words → IsEnd pool from n
    → IsClear pool.inputs n words
part-clear pool from n words blocks end w i b inside within behind = elim (cases_lt w (words_of n)) [
  | inl less ↦ elim end [
    | inl all ↦
        let past : nat_lt (64 * (from + w) + b) (length pool.patterns) ≡ false = le-ltb _ _ (omega (arith, behind, all)) in
        clear-bit (slice_index_or words (w * pool.inputs + i) 0) b
        (blocks.bits w i b less inside within ∙ ap (λ (t : Bool). t && truth_of pool.patterns i (64 * (from + w) + b)) past)
    | inr whole ↦ absurd (omega (arith, whole, less, within, behind))
  ]
  | inr more ↦
      ap (λ (k : ℕ). bit_at k b) (get_or_past words (w * pool.inputs + i) 0 (omega (arith, blocks.size, times-mono (words_of n) w pool.inputs more)))
      ∙ bit_at-zero b
]

module _ (pool : Patterns) (whole : IsWhole pool) where
  -- pattern p of the blocks from a word on
  part-at : (from count : ℕ) (words : List ℕ) → AreBlocks pool from count words → (p k : ℕ) → p / 64 < count → k ≡ 64 * from + p
      → k < length pool.patterns → slice_index_or pool.patterns k [] ≡ added-pattern pool.inputs words p
  part-at from count words blocks p k inside is below =
      fill_by_all (λ i. is_set (slice_index_or words (p / 64 * pool.inputs + i) 0) (p % 64)) (slice_index_or pool.patterns k []) pool.inputs false (whole k below)
      (λ i there.
      let place : 64 * (from + p / 64) + p % 64 ≡ k = omega (arith, is) in
      sym (blocks.bits (p / 64) i (p % 64) inside there (omega arith) ∙ ap (bit_of pool i) place
      ∙ ap (λ (t : Bool). t && truth_of pool.patterns i k) (lt-ltb k (length pool.patterns) below)))

  first-part : (drawn : List ℕ) → AreBlocks pool 0 1 drawn → 64 ≤ length pool.patterns
      → take 64 pool.patterns ≡ drawn_patterns pool.inputs 1 drawn
  first-part drawn blocks some =
      fill_by_all (drawn-pattern pool.inputs 1 drawn) (take 64 pool.patterns) (64 * 1) [] (omega (arith, length-take 64 pool.patterns, some))
      (λ k below.
      let zero-word : k / 64 ≡ 0 = omega arith in
      get_or-take 64 pool.patterns k [] (omega arith)
      ∙ part-at 0 1 drawn blocks k k (omega arith) (omega arith) (omega (arith, some))
      ∙ map-range-same _ _ pool.inputs false (λ i there.
      let slot : k / 64 * pool.inputs + i ≡ i * 1 + k / 64 = omega (arith, ap (λ (z : ℕ). z * pool.inputs) zero-word) in
      ap (λ (s : ℕ). is_set (slice_index_or drawn s 0) (k % 64)) slot))

  last-part : (from words n : ℕ) (added : List ℕ) → AreBlocks pool from (words_of n) added
      → min (64 * (from + words)) (length pool.patterns) ≡ 64 * from + n
      → drop (64 * from) (first_words (from + words) pool.patterns) ≡ added_patterns pool.inputs n added
  last-part from words n added blocks all =
      let cut : List (List Bool) = first_words (from + words) pool.patterns in
      let size : length cut ≡ 64 * from + n = length-take (64 * (from + words)) pool.patterns ∙ all in
      fill_by_all (added-pattern pool.inputs added) (drop (64 * from) cut) n [] (omega (arith, length-drop (64 * from) cut, size))
      (λ k below. get_or-drop (64 * from) cut k []
      ∙ get_or-take (64 * (from + words)) pool.patterns (64 * from + k) [] (omega (arith, all, below))
      ∙ part-at from (words_of n) added blocks k (64 * from + k) (omega (arith, below)) refl (omega (arith, all, below)))

  abbrev pool-of : ℕ → List (List Bool) → Patterns
  pool-of inputs patterns = record { inputs = inputs; patterns = patterns }

  -- what the blocks spell
  pub part-is : (seen words inputs from n : ℕ) (drawn added : List ℕ) → inputs ≡ pool.inputs → 64 ≤ length pool.patterns → from ≡ seen / 64
      → min (64 * (from + words)) (length pool.patterns) ≡ 64 * from + n → AreBlocks pool 0 1 drawn → AreBlocks pool from (words_of n) added
      → pool-of inputs (drawn_patterns inputs 1 drawn ++ added_patterns inputs n added) ≡ pool-of pool.inputs (part_from seen words pool.patterns)
  part-is seen words inputs from n drawn added same some word all first rest =
      ap (λ (m : ℕ). pool-of m (drawn_patterns m 1 drawn ++ added_patterns m n added)) same
      ∙ ap (pool-of pool.inputs) (ap₂ ◌++◌ (sym (first-part drawn first some))
      (sym (last-part from words n added rest all)
      ∙ ap (λ (w : ℕ). drop (64 * w) (first_words (w + words) pool.patterns)) word))

-- where so many words end, or the patterns before that
pub part-end : (pool : Patterns) (from words n end : ℕ) → end ≡ min (64 * (from + words)) (length pool.patterns) → n ≡ end - from * 64
    → 64 * from ≤ length pool.patterns → (min (64 * (from + words)) (length pool.patterns) ≡ 64 * from + n) × IsEnd pool from n
part-end pool from words n end is count few = elim (cases_lt (64 * (from + words)) (length pool.patterns)) [
  | inl less ↦
      let whole : n ≡ 64 * words = omega (arith, is, count, less) in
      (omega (arith, is, count, few, less), inr (omega (arith, whole)))
  | inr more ↦ (omega (arith, is, count, few, more), inl (omega (arith, is, count, few, more)))
]

-- the words of the part
pub part-size : (pool : Patterns) (from n inputs : ℕ) (added : List ℕ) → inputs ≡ pool.inputs → AreBlocks pool from (words_of n) added
    → length added ≡ inputs * words_of n
part-size pool from n inputs added same blocks =
    blocks.size ∙ mul_comm (words_of n) pool.inputs ∙ ap (λ (k : ℕ). k * words_of n) (sym same)
