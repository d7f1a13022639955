-- When two rows are alike: they are equal, or one is the other's complement. Alike rows have one normal form, whose first
-- bit is 0.
use Rattle.std.specs.Prelude.{ℕ, zero, suc, ◌*◌, ◌-◌, ◌^◌, ◌/◌, ◌%◌, ◌==◌, nat_lt, Bool, List, [], bit_and, bit_xor, if◌then◌else◌}
use Rattle.std.specs.List.{list_all, range_with_len, slice_index_or}
use Rattle.word_sim.specs.Patterns.{is_set, words_of}
use Rattle.word_sim.specs.Rows.{Signatures, mask_of}

abbrev pub row_of : Signatures → ℕ → List ℕ
row_of sigs p = slice_index_or sigs.rows p []

-- the row's first bit
abbrev pub first_bit : List ℕ → Bool
first_bit row = is_set (slice_index_or row 0 0) 0

-- the bits of word w that so many values fill
abbrev pub filled_mask : ℕ → ℕ → ℕ
filled_mask count w = if nat_lt (count - 64 * w) 64 then 2 ^ (count - 64 * w) - 1 else 18446744073709551615

-- word w of the normal form of a row of so many values: the row, or where its first bit is set its complement
unfoldable pub normal_word : ℕ → List ℕ → ℕ → ℕ
normal_word count row w = bit_and (bit_xor (slice_index_or row w 0) (mask_of (first_bit row))) (filled_mask count w)

abbrev pub alike : ℕ → List ℕ → List ℕ → Bool
alike count a b = list_all (λ w. normal_word count a w == normal_word count b w) (range_with_len 0 (words_of count))

-- one step of a hash: multiplied by the odd number next to 2^64 over the golden ratio (Knuth), the halves mixed
unfoldable pub mixed : ℕ → ℕ → ℕ
mixed hash word =
    bit_xor (bit_xor hash word * 11400714819323198485 % 2 ^ 64) ((bit_xor hash word * 11400714819323198485 % 2 ^ 64) / 2 ^ 32)

-- the hash of a class and the first n words
unfoldable pub hash_of_first : ℕ → (ℕ → ℕ) → ℕ → ℕ
hash_of_first class word zero = class
hash_of_first class word (suc n) = mixed (hash_of_first class word n) (word n)

-- the hash of a class and a row's normal form
abbrev pub hash_of : ℕ → ℕ → List ℕ → ℕ
hash_of class count row = hash_of_first class (normal_word count row) (words_of count)

-- the bucket of a hash among so many, by its upper half
abbrev pub bucket_of : ℕ → ℕ → ℕ
bucket_of buckets hash = hash / 2 ^ 32 * buckets / 2 ^ 32
