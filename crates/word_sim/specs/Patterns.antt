-- What a pool holds: patterns, each a truth value per input; and which ones a seed draws.
use Rattle.std.specs.Prelude.{ℕ, zero, suc, ◌+◌, ◌*◌, ◌/◌, ◌%◌, ◌==◌, ◌++◌, Bool, false, List, [], map, take, drop}
use Rattle.std.specs.List.{range_with_len, slice_index_or}
use Rattle.std.specs.Int.{bit_at}
use Rattle.rand_core.specs.Pcg32Seed.{pcg32_seed}
use Rattle.rand_pcg.specs.Lcg.{Lcg}
use Rattle.rand_pcg.specs.Pcg.{pcg64, pcg64_of_seed}

-- patterns in order, each with one truth value per input
pub record Patterns : Type 0 where
  pub inputs : ℕ
  pub patterns : List (List Bool)

-- the words of 64 bits that so many patterns take
abbrev pub words_of : ℕ → ℕ
words_of count = (count + 63) / 64

-- the generator after k draws
unfoldable pub after : Lcg → ℕ → Lcg
after g zero = g
after g (suc k) = (pcg64 (after g k)).1

-- PCG XSL RR 128/64 (O'Neill 2014), with its state made from a number as `seed_from_u64` of `rand_core` makes it
unfoldable pub generator : ℕ → Lcg
generator seed = pcg64_of_seed (pcg32_seed 32 seed)

-- draw number k, from 0, of a seed
unfoldable pub draw : ℕ → ℕ → ℕ
draw seed k = (pcg64 (after (generator seed) k)).0

-- the bit is set in the word
abbrev pub is_set : ℕ → ℕ → Bool
is_set word b = bit_at word b == 1

-- the truth value of an input in pattern p
abbrev pub truth_of : List (List Bool) → ℕ → ℕ → Bool
truth_of patterns input p = slice_index_or (slice_index_or patterns p []) input false

-- Word w of input i is draw number i * words + w; bit b of that word is the input's truth value in pattern 64 w + b.
abbrev pub seeded_pattern : ℕ → ℕ → ℕ → ℕ → List Bool
seeded_pattern seed words inputs p =
    map (λ i. is_set (draw seed (i * words + p / 64)) (p % 64)) (range_with_len 0 inputs)

-- the pool that a seed gives: 64 patterns a word
abbrev pub seeded : ℕ → ℕ → ℕ → Patterns
seeded seed words inputs = record {
  inputs = inputs;
  patterns = map (seeded_pattern seed words inputs) (range_with_len 0 (64 * words));
}

-- the patterns of the first so many words
abbrev pub first_words : ℕ → List (List Bool) → List (List Bool)
first_words words patterns = take (64 * words) patterns

-- the first 64 patterns, and behind them those of at most so many words from the one on that follows so many patterns
abbrev pub part_from : ℕ → ℕ → List (List Bool) → List (List Bool)
part_from seen words patterns = take 64 patterns ++ drop (64 * (seen / 64)) (first_words (seen / 64 + words) patterns)
