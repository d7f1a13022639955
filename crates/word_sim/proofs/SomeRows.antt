-- There are rows for each list of patterns.
use Rattle.std.proofs.Common.{◌≡◌, ◌∙◌, ℕ, zero, suc, ◌+◌, ◌*◌, ◌<◌, ◌≤◌, ◌==◌, ◌&&◌, nat_lt, Bool, List, [], length, map, refl, sym, ap, subst, inl, inr}
use native.Mathlib.Omega.{arith}
use Rattle.std.specs.List.{range_with_len}
use Rattle.std.specs.Int.{bit_at}
use Rattle.std.proofs.lemmas.Bool.{cases_lt}
use Rattle.std.proofs.lemmas.List.FromFn.{get_or-map-range_with_len, length-map-range_with_len}
use Rattle.std.proofs.lemmas.Nat.Bits.{bit_at-zero}
use Rattle.netlist.specs.Net.{AigPair, nodes_of, node_at}
use Rattle.word_sim.specs.Patterns.{is_set, words_of}
use Rattle.word_sim.specs.Storage.{with_bit}
use Rattle.word_sim.specs.Rows.{HasBits, Signatures, AreSignatures, IsRow, value_on}
use Rattle.word_sim.proofs.PoolLemmas.{with_bit-other, with_bit-same}

-- a word with these values at its first k bits
unfoldable word_of : (ℕ → Bool) → ℕ → ℕ
word_of f zero = 0
word_of f (suc k) = with_bit (word_of f k) k (f k)

word-bit : (f : ℕ → Bool) (k b : ℕ) → k ≤ 64 → (b < k → is_set (word_of f k) b ≡ f b) × (k ≤ b → bit_at (word_of f k) b ≡ 0)
unfolding word_of
word-bit f zero b few = (λ less. absurd (omega arith), λ more. bit_at-zero b)
word-bit f (suc k) b few = (
  λ less. elim (cases_lt b k) [
    | inl l ↦
        ap (λ (v : ℕ). v == 1) (with_bit-other (word_of f k) k b (f k) (omega arith) (λ e. absurd (omega (arith, e, l))))
        ∙ (word-bit f k b (omega arith)).0 l
    | inr m ↦
        let same : k ≡ b = omega arith in
        subst (λ (n : ℕ). is_set (with_bit (word_of f k) k (f k)) n ≡ f n) same
        (with_bit-same (word_of f k) k (f k) (omega arith) ((word-bit f k k (omega arith)).1 (omega arith)))
  ],
  λ more. with_bit-other (word_of f k) k b (f k) (omega arith) (λ e. absurd (omega (arith, e, more))) ∙ (word-bit f k b (omega arith)).1 (omega arith),
)

abbrev row-word : ℕ → (ℕ → Bool) → ℕ → ℕ
row-word count truth w = word_of (λ b. nat_lt (64 * w + b) count && truth (64 * w + b)) 64

abbrev row-of : ℕ → (ℕ → Bool) → List ℕ
row-of count truth = map (row-word count truth) (range_with_len 0 (words_of count))

row-bits : (count : ℕ) (truth : ℕ → Bool) → HasBits count truth (row-of count truth)
row-bits count truth =
    let size : length (row-of count truth) ≡ words_of count = length-map-range_with_len (row-word count truth) 0 (words_of count) in
    record {
      size = size;
      bits = λ w b inside within.
          ap (λ (k : ℕ). is_set k b) (get_or-map-range_with_len (row-word count truth) 0 (words_of count) w w 0 (omega (arith, size, inside)) (omega arith))
          ∙ (word-bit (λ b. nat_lt (64 * w + b) count && truth (64 * w + b)) 64 b (omega arith)).0 within;
    }

abbrev rows-of : AigPair → List (List Bool) → ℕ → List ℕ
rows-of net patterns p = row-of (length patterns) (value_on net patterns (node_at net p))

pub some-signatures : (net : AigPair) (patterns : List (List Bool)) → 1 ≤ length patterns → (sigs : Signatures) × AreSignatures net patterns sigs
some-signatures net patterns some =
    let size : length (map (rows-of net patterns) (range_with_len 0 (length (nodes_of net)))) ≡ length (nodes_of net) =
    length-map-range_with_len (rows-of net patterns) 0 (length (nodes_of net)) in (
      record { patterns = length patterns; rows = map (rows-of net patterns) (range_with_len 0 (length (nodes_of net))) },
      record {
        size = refl;
        some = some;
        count = size;
        each = λ p below.
            let inside : p < length (nodes_of net) = omega (arith, size, below) in
            subst (IsRow net patterns (node_at net p))
            (sym (get_or-map-range_with_len (rows-of net patterns) 0 (length (nodes_of net)) p p [] inside (omega arith)))
            (row-bits (length patterns) (value_on net patterns (node_at net p)));
      },
    )
