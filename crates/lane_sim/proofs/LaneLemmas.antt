-- Words that are written some at a time, in lanes.
use Rattle.std.proofs.Common.{◌≡◌, ◌∙◌, ℕ, ◌+◌, ◌-◌, ◌<◌, ◌≤◌, List, length, sym, ap, ap₂, bit_and, bit_xor, inl, inr}
use native.Mathlib.Omega.{arith}
use Rattle.std.specs.Prelude.{replicate}
use Rattle.std.specs.List.{slice_index_or}
use Rattle.std.specs.Simd.Lanes.{zip2, chunk, put_chunk}
use Rattle.std.proofs.lemmas.Bool.{cases_lt}
use Rattle.std.proofs.lemmas.List.{length-set, get_or-set_same, get_or-set_other}
use Rattle.std.proofs.lemmas.Simd.{length-zip2, length-chunk, length-replicate, length-put_chunk, get_or-zip2, get_or-chunk, get_or-replicate, get_or-put_chunk_below, get_or-put_chunk_at}
use Rattle.std.proofs.Common.{slice_set}

-- the words before n are written
pub record AreWritten (word : ℕ → ℕ) (old : List ℕ) (n : ℕ) (new : List ℕ) : Type 0 where
  pub size : length new ≡ length old
  pub written : (k : ℕ) → k < n → slice_index_or new k 0 ≡ word k

-- one word more
pub written-next : (word : ℕ → ℕ) (old : List ℕ) (n : ℕ) (now : List ℕ) (value : ℕ) → AreWritten word old n now → n < length now
    → value ≡ word n → AreWritten word old (n + 1) (slice_set now n value)
written-next word old n now value so inside is = record {
  size = length-set now n value ∙ so.size;
  written = λ k below. elim (cases_lt k n) [
    | inl less ↦ get_or-set_other now n k value 0 (λ e. absurd (omega (arith, e))) ∙ so.written k less
    | inr more ↦ let same : k ≡ n = omega arith in rw same (get_or-set_same now n value 0 inside ∙ is)
  ];
}

-- four words more
pub written-lanes : (word : ℕ → ℕ) (old : List ℕ) (n : ℕ) (now lanes : List ℕ) → AreWritten word old n now → n + 4 ≤ length now
    → length lanes ≡ 4 → ((k : ℕ) → k < 4 → slice_index_or lanes k 0 ≡ word (n + k)) → AreWritten word old (n + 4) (put_chunk n now lanes)
written-lanes word old n now lanes so room four is = record {
  size = length-put_chunk n now lanes ∙ so.size;
  written = λ k below. elim (cases_lt k n) [
    | inl less ↦ get_or-put_chunk_below n now lanes k 0 less ∙ so.written k less
    | inr more ↦
        let place : n + (k - n) ≡ k = omega (arith, more) in
        ap (λ (j : ℕ). slice_index_or (put_chunk n now lanes) j 0) (sym place)
        ∙ get_or-put_chunk_at n now lanes (k - n) 0 (omega (arith, four, below, more)) (omega (arith, four, room))
        ∙ is (k - n) (omega (arith, below, more)) ∙ ap word place
  ];
}

-- a word of an AND of two rows, each turned by a mask
abbrev pub both-word : List ℕ → ℕ → List ℕ → ℕ → ℕ → ℕ
both-word left left-mask right right-mask w = bit_and (bit_xor (slice_index_or left w 0) left-mask) (bit_xor (slice_index_or right w 0) right-mask)

-- four words of a row, turned by a mask
abbrev pub turned-lanes : ℕ → List ℕ → ℕ → List ℕ
turned-lanes at words mask = zip2 bit_xor (chunk at 4 words) (replicate 4 mask)

turned-size : (at : ℕ) (words : List ℕ) (mask : ℕ) → at + 4 ≤ length words → length (turned-lanes at words mask) ≡ 4
turned-size at words mask room =
    length-zip2 bit_xor (chunk at 4 words) (replicate 4 mask) (length-chunk at 4 words room ∙ sym (length-replicate 4 mask))
    ∙ length-chunk at 4 words room

turned-lane : (at k : ℕ) (words : List ℕ) (mask : ℕ) → at + 4 ≤ length words → k < 4
    → slice_index_or (turned-lanes at words mask) k 0 ≡ bit_xor (slice_index_or words (at + k) 0) mask
turned-lane at k words mask room below =
    get_or-zip2 bit_xor (chunk at 4 words) (replicate 4 mask) k 0 0 0
    (omega (arith, length-chunk at 4 words room, below)) (omega (arith, length-replicate 4 mask, below))
    ∙ ap₂ bit_xor (get_or-chunk at 4 words k 0 below) (get_or-replicate 4 k mask 0 below)

-- four words of an AND of two rows
abbrev pub both-lanes : ℕ → List ℕ → ℕ → List ℕ → ℕ → List ℕ
both-lanes at left left-mask right right-mask = zip2 bit_and (turned-lanes at left left-mask) (turned-lanes at right right-mask)

pub both-size : (at : ℕ) (left : List ℕ) (left-mask : ℕ) (right : List ℕ) (right-mask : ℕ) → at + 4 ≤ length left → at + 4 ≤ length right
    → length (both-lanes at left left-mask right right-mask) ≡ 4
both-size at left left-mask right right-mask first second =
    length-zip2 bit_and (turned-lanes at left left-mask) (turned-lanes at right right-mask)
    (turned-size at left left-mask first ∙ sym (turned-size at right right-mask second)) ∙ turned-size at left left-mask first

pub both-lane : (at k : ℕ) (left : List ℕ) (left-mask : ℕ) (right : List ℕ) (right-mask : ℕ) → at + 4 ≤ length left → at + 4 ≤ length right
    → k < 4 → slice_index_or (both-lanes at left left-mask right right-mask) k 0 ≡ both-word left left-mask right right-mask (at + k)
both-lane at k left left-mask right right-mask first second below =
    get_or-zip2 bit_and (turned-lanes at left left-mask) (turned-lanes at right right-mask) k 0 0 0
    (omega (arith, turned-size at left left-mask first, below)) (omega (arith, turned-size at right right-mask second, below))
    ∙ ap₂ bit_and (turned-lane at k left left-mask first below) (turned-lane at k right right-mask second below)
