-- How a pool keeps its patterns in words.
use Rattle.std.specs.Prelude.{◌≡◌, ◌==◌, ℕ, ◌+◌, ◌*◌, ◌/◌, ◌%◌, ◌^◌, ◌<◌, ◌≤◌, ◌&&◌, nat_lt, ◌++◌, Bool, false, List, length, map, bit_or, if◌then◌else◌}
use Rattle.std.specs.List.{range_with_len, slice_index_or}
use Rattle.std.specs.Int.{bit_at}
use Rattle.word_sim.specs.Patterns.{Patterns, is_set, truth_of}

-- input by input, each with all its words
abbrev pub drawn_patterns : ℕ → ℕ → List ℕ → List (List Bool)
drawn_patterns inputs words drawn = map
    (λ p. map (λ i. is_set (slice_index_or drawn (i * words + p / 64) 0) (p % 64)) (range_with_len 0 inputs))
    (range_with_len 0 (64 * words))

-- word by word, each for all inputs
abbrev pub added_patterns : ℕ → ℕ → List ℕ → List (List Bool)
added_patterns inputs count added = map
    (λ p. map (λ i. is_set (slice_index_or added (p / 64 * inputs + i) 0) (p % 64)) (range_with_len 0 inputs))
    (range_with_len 0 count)

-- the bits behind the last pattern are 0
abbrev pub IsClear : ℕ → ℕ → List ℕ → Type 0
IsClear inputs count added = (w i b : ℕ) → i < inputs → b < 64 → count ≤ 64 * w + b
    → bit_at (slice_index_or added (w * inputs + i) 0) b ≡ 0

-- the word, with its bit at the place set where the value is true
abbrev pub with_bit : ℕ → ℕ → Bool → ℕ
with_bit word place truth = if truth then bit_or word (1 * 2 ^ place % 2 ^ 64) else word

-- the words from a place on have the bits of the values set, those before stay
pub record AreSet (from : ℕ) (input : List Bool) (place : ℕ) (old new : List ℕ) : Type 0 where
  pub count : length new ≡ length old
  pub before : (k : ℕ) → k < from → slice_index_or new k 0 ≡ slice_index_or old k 0
  pub set : (i : ℕ) → i < length input
      → slice_index_or new (from + i) 0 ≡ with_bit (slice_index_or old (from + i) 0) place (slice_index_or input i false)

-- a block of zeros is put last where the next pattern is the first of a block
pub record HasRoom (inputs place : ℕ) (old new : List ℕ) : Type 0 where
  pub count : length new ≡ length old + (if place == 0 then inputs else 0)
  pub same : (k : ℕ) → slice_index_or new k 0 ≡ slice_index_or old k 0

-- the bit is that of input i on pattern p, and 0 behind the last pattern
abbrev pub bit_of : Patterns → ℕ → ℕ → Bool
bit_of pool i p = nat_lt p (length pool.patterns) && truth_of pool.patterns i p

-- the words of the first so many inputs are put last
pub record IsBlock (pool : Patterns) (word count : ℕ) (old new : List ℕ) : Type 0 where
  pub added : List ℕ
  pub is : new ≡ old ++ added
  pub size : length added ≡ count
  pub bits : (i b : ℕ) → i < count → b < 64 → is_set (slice_index_or added i 0) b ≡ bit_of pool i (64 * word + b)

-- so many words from one on, each for all inputs
pub record AreBlocks (pool : Patterns) (from count : ℕ) (words : List ℕ) : Type 0 where
  pub size : length words ≡ count * pool.inputs
  pub bits : (w i b : ℕ) → w < count → i < pool.inputs → b < 64
      → is_set (slice_index_or words (w * pool.inputs + i) 0) b ≡ bit_of pool i (64 * (from + w) + b)
