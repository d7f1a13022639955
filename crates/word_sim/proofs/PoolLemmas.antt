-- How the words of a pool spell its patterns.
use Rattle.std.proofs.Common.{◌≡◌, ◌∙◌, ◌≢◌, ℕ, ◌+◌, ◌*◌, ◌/◌, ◌%◌, ◌<◌, ◌≤◌, Bool, true, false, List, [], ◌∷◌, ◌++◌, ◌==◌, ◌&&◌, nat_lt, length, map, refl, sym, ap, subst, suc, inl, inr, ◌-◌, if◌then◌else◌}
use native.Mathlib.Omega.{arith}
use native.Mathlib.Nat.{mul_comm}
use Rattle.std.proofs.Math.Nat.{mul-suc, suc-mul, mul-le-mul_left}
use Rattle.std.proofs.lemmas.Bool.{cases_lt, lt-ltb}
use Rattle.std.proofs.lemmas.Bool.Decides.{eqb_tells}
use Rattle.std.specs.List.{AllByRecursion, range_with_len, slice_index_or}
use Rattle.std.specs.Int.{bit_at, w64}
use Rattle.std.proofs.lemmas.List.FromFn.{fill_by_all, get_or-map-range_with_len, length-map-range_with_len, map-range_with_len_more}
use Rattle.std.proofs.lemmas.List.{get_or_past, get_or_append_left, get_or-append_right, length-append}
use Rattle.std.proofs.lemmas.Nat.{row_fits}
use Rattle.std.proofs.lemmas.Nat.Bits.{bit_at_set_same, bit_at_set_other, bit_at-zero}
use Rattle.word_sim.specs.Patterns.{draw, is_set, seeded_pattern, truth_of, words_of}
use Rattle.word_sim.proofs.BitLemmas.{less}
use Rattle.word_sim.specs.Storage.{drawn_patterns, added_patterns, IsClear, with_bit, AreSet, HasRoom}

-- lists made by functions that agree
pub map-range-same : {X : Type 0} (f g : ℕ → X) (n : ℕ) (d : X) → ((k : ℕ) → k < n → f k ≡ g k)
    → map f (range_with_len 0 n) ≡ map g (range_with_len 0 n)
map-range-same f g n d same = fill_by_all g (map f (range_with_len 0 n)) n d (length-map-range_with_len f 0 n)
    (λ k below. get_or-map-range_with_len f 0 n k k d below (omega arith) ∙ same k below)

-- word w of input i stands inside
pub row-inside : (inputs words i w : ℕ) → i < inputs → w < words → i * words + w < inputs * words
row-inside inputs words i w first second = omega (arith, row_fits i words inputs words first (omega arith))

pub drawn-seeded : (seed words inputs : ℕ) (drawn : List ℕ) → drawn ≡ map (draw seed) (range_with_len 0 (inputs * words))
    → drawn_patterns inputs words drawn ≡ map (seeded_pattern seed words inputs) (range_with_len 0 (64 * words))
drawn-seeded seed words inputs drawn is = map-range-same _ _ (64 * words) [] (λ p below.
    map-range-same _ _ inputs false (λ i inside.
    let place : i * words + p / 64 < inputs * words = row-inside inputs words i (p / 64) inside (omega arith) in
    ap (λ word. is_set word (p % 64)) (ap (λ (ws : List ℕ). slice_index_or ws (i * words + p / 64) 0) is
    ∙ get_or-map-range_with_len (draw seed) 0 (inputs * words) _ _ 0 place (omega arith))))

-- a bit at another place stays
pub with_bit-other : (word place b : ℕ) (truth : Bool) → place < 64 → b ≢ place → bit_at (with_bit word place truth) b ≡ bit_at word b
with_bit-other word place b true inside other = bit_at_set_other w64 word place inside b other
with_bit-other word place b false inside other = refl

-- the bit at the place is the value, where it was clear
pub with_bit-same : (word place : ℕ) (truth : Bool) → place < 64 → bit_at word place ≡ 0 → is_set (with_bit word place truth) place ≡ truth
with_bit-same word place true inside clear = rw (bit_at_set_same w64 word place inside) refl
with_bit-same word place false inside clear = rw clear refl

pub times-mono : (a b k : ℕ) → a ≤ b → a * k ≤ b * k
times-mono a b k le = omega (arith, mul-le-mul_left k le, mul_comm a k, mul_comm b k)

module _ (inputs count : ℕ) (input : List Bool) (old mid new : List ℕ) (fits : length input ≡ inputs)
    (whole : length old ≡ inputs * words_of count) (clear : IsClear inputs count old)
    (room : HasRoom inputs (count % 64) old mid) where
  -- the last block begins at that place and is the last
  pub last-block : length mid ≡ count / 64 * inputs + length input
  last-block = elim (eqb_tells (count % 64) 0) [
    | inl p ↦
        let part : count % 64 ≡ 0 = p.1 in
        let first : words_of count ≡ count / 64 = omega arith in
        let size : inputs * words_of count ≡ inputs * (count / 64) = ap (λ n. inputs * n) first in
        let more : length mid ≡ length old + inputs = subst (λ (t : Bool). length mid ≡ length old + (if t then inputs else 0)) p.0 room.count in
        omega (arith, fits, whole, size, mul_comm inputs (count / 64), more)
    | inr p ↦
        let part : count % 64 ≢ 0 = p.1 in
        let inside : words_of count ≡ suc (count / 64) = omega arith in
        let size : inputs * words_of count ≡ inputs * suc (count / 64) = ap (λ n. inputs * n) inside in
        let more : length mid ≡ length old + 0 = subst (λ (t : Bool). length mid ≡ length old + (if t then inputs else 0)) p.0 room.count in
        omega (arith, fits, whole, size, mul-suc inputs (count / 64), mul_comm inputs (count / 64), more)
  ]

  module _ (set : AreSet (count / 64 * inputs) input (count % 64) mid new) where
    -- a word of an earlier block stays
    earlier : (w i : ℕ) → i < inputs → w < count / 64 → slice_index_or new (w * inputs + i) 0 ≡ slice_index_or old (w * inputs + i) 0
    earlier w i inside before =
        let below : w * inputs + i < count / 64 * inputs = row-inside (count / 64) inputs w i before inside in
        set.before (w * inputs + i) below ∙ room.same (w * inputs + i)

    -- a word of the last block has one bit set
    last : (i : ℕ) → i < inputs → slice_index_or new (count / 64 * inputs + i) 0
        ≡ with_bit (slice_index_or old (count / 64 * inputs + i) 0) (count % 64) (slice_index_or input i false)
    last i inside = set.set i (omega arith) ∙ ap (λ k. with_bit k (count % 64) (slice_index_or input i false)) (room.same (count / 64 * inputs + i))

    -- the bits of the earlier patterns stay
    kept : (p i : ℕ) → p < count → i < inputs
        → is_set (slice_index_or new (p / 64 * inputs + i) 0) (p % 64) ≡ is_set (slice_index_or old (p / 64 * inputs + i) 0) (p % 64)
    kept p i before inside = elim (cases_lt (p / 64) (count / 64)) [
      | inl less ↦ ap (λ k. is_set k (p % 64)) (earlier (p / 64) i inside less)
      | inr more ↦
          let same : p / 64 ≡ count / 64 = omega arith in
          let other : p % 64 < count % 64 = omega arith in
          rw same (ap (λ k. is_set k (p % 64)) (last i inside)
          ∙ ap (λ b. b == 1) (with_bit-other _ (count % 64) (p % 64) (slice_index_or input i false) (omega arith) (λ e. absurd (omega (arith, e)))))
    ]

    abbrev pattern : ℕ → List Bool
    pattern p = map (λ i. is_set (slice_index_or new (p / 64 * inputs + i) 0) (p % 64)) (range_with_len 0 inputs)

    -- the pattern is put last
    pub added-next : added_patterns inputs (count + 1) new ≡ added_patterns inputs count old ++ input ∷ []
    added-next = map-range_with_len_more pattern 0 count count (omega arith)
        ∙ ap (λ (ps : List (List Bool)). ps ++ pattern count ∷ []) (map-range-same _ _ count [] (λ p before. map-range-same _ _ inputs false (λ i inside. kept p i before inside)))
        ∙ ap (λ (p : List Bool). added_patterns inputs count old ++ p ∷ []) (sym (fill_by_all _ input inputs false fits (λ i inside.
        sym (ap (λ k. is_set k (count % 64)) (last i inside)
        ∙ with_bit-same _ (count % 64) (slice_index_or input i false) (omega arith) (clear (count / 64) i (count % 64) inside (omega arith) (omega arith))))))

    pub added-size : length new ≡ inputs * words_of (count + 1)
    added-size =
        let blocks : words_of (count + 1) ≡ suc (count / 64) = omega arith in
        let size : inputs * words_of (count + 1) ≡ inputs * suc (count / 64) = ap (λ n. inputs * n) blocks in
        omega (arith, fits, set.count, last-block, size, mul-suc inputs (count / 64), mul_comm inputs (count / 64))

    pub added-clear : IsClear inputs (count + 1) new
    added-clear w i b inside within behind = elim (cases_lt w (suc (count / 64))) [
      | inl less ↦
          let same : w ≡ count / 64 = omega arith in
          rw same (ap (λ k. bit_at k b) (last i inside)
          ∙ with_bit-other _ (count % 64) b (slice_index_or input i false) (omega arith) (λ e. absurd (omega (arith, e)))
          ∙ clear (count / 64) i b inside within (omega arith))
      | inr more ↦
          let past : suc (count / 64) * inputs ≤ w * inputs = times-mono (suc (count / 64)) w inputs more in
          let one : suc (count / 64) * inputs ≡ count / 64 * inputs + inputs = suc-mul (count / 64) inputs in
          ap (λ k. bit_at k b) (get_or_past new (w * inputs + i) 0 (omega (arith, fits, set.count, last-block, past, one))) ∙ bit_at-zero b
    ]

pub patterns-count : (inputs words : ℕ) (drawn : List ℕ) (count : ℕ) (added : List ℕ)
    → length (drawn_patterns inputs words drawn ++ added_patterns inputs count added) ≡ 64 * words + count
patterns-count inputs words drawn count added =
    length-append (drawn_patterns inputs words drawn) (added_patterns inputs count added)
    ∙ omega (
      arith,
      length-map-range_with_len (λ p. map (λ i. is_set (slice_index_or drawn (i * words + p / 64) 0) (p % 64)) (range_with_len 0 inputs)) 0 (64 * words),
      length-map-range_with_len (λ p. map (λ i. is_set (slice_index_or added (p / 64 * inputs + i) 0) (p % 64)) (range_with_len 0 inputs)) 0 count,
    )

-- lists of one length, and of two such
as-long : (n : ℕ) (f : ℕ → List Bool) (ks : List ℕ) → ((k : ℕ) → length (f k) ≡ n) → AllByRecursion (λ bits. length bits ≡ n) (map f ks)
as-long n f [] each = tt
as-long n f (k ∷ ks) each = (each k, as-long n f ks each)

both-as-long : (n : ℕ) (xs ys : List (List Bool)) → AllByRecursion (λ bits. length bits ≡ n) xs → AllByRecursion (λ bits. length bits ≡ n) ys
    → AllByRecursion (λ bits. length bits ≡ n) (xs ++ ys)
both-as-long n [] ys first second = second
both-as-long n (x ∷ xs) ys first second = (first.0, both-as-long n xs ys first.1 second)

-- each pattern, drawn or added, has one truth value for each input
pub all-as-long : (inputs words : ℕ) (drawn : List ℕ) (count : ℕ) (added : List ℕ)
    → AllByRecursion (λ bits. length bits ≡ inputs) (drawn_patterns inputs words drawn ++ added_patterns inputs count added)
all-as-long inputs words drawn count added =
    both-as-long inputs (drawn_patterns inputs words drawn) (added_patterns inputs count added)
    (as-long inputs _ (range_with_len 0 (64 * words))
    (λ p. length-map-range_with_len (λ i. is_set (slice_index_or drawn (i * words + p / 64) 0) (p % 64)) 0 inputs))
    (as-long inputs _ (range_with_len 0 count)
    (λ p. length-map-range_with_len (λ i. is_set (slice_index_or added (p / 64 * inputs + i) 0) (p % 64)) 0 inputs))

pub drawn-size : (seed words inputs : ℕ) (drawn : List ℕ) → drawn ≡ map (draw seed) (range_with_len 0 (inputs * words))
    → length drawn ≡ inputs * words
drawn-size seed words inputs drawn is = ap (λ (ws : List ℕ). length ws) is ∙ length-map-range_with_len (draw seed) 0 (inputs * words)

-- the bits of the first n values are set
pub record IsSetting (from : ℕ) (input : List Bool) (place : ℕ) (old : List ℕ) (n : ℕ) (new : List ℕ) : Type 0 where
  pub count : length new ≡ length old
  pub before : (k : ℕ) → k < from → slice_index_or new k 0 ≡ slice_index_or old k 0
  pub set : (i : ℕ) → i < n
      → slice_index_or new (from + i) 0 ≡ with_bit (slice_index_or old (from + i) 0) place (slice_index_or input i false)
  pub behind : (i : ℕ) → n ≤ i → slice_index_or new (from + i) 0 ≡ slice_index_or old (from + i) 0

-- one more value is passed: its word is written, the others stay
pub setting-next : (from : ℕ) (input : List Bool) (place : ℕ) (old : List ℕ) (n : ℕ) (now new : List ℕ)
    → IsSetting from input place old n now → length new ≡ length now
    → ((k : ℕ) → k ≢ from + n → slice_index_or new k 0 ≡ slice_index_or now k 0)
    → slice_index_or new (from + n) 0 ≡ with_bit (slice_index_or now (from + n) 0) place (slice_index_or input n false)
    → IsSetting from input place old (n + 1) new
setting-next from input place old n now new s size others one = record {
  count = size ∙ s.count;
  before = λ k below. others k (λ e. absurd (omega (arith, e))) ∙ s.before k below;
  set = λ i below. elim (cases_lt i n) [
    | inl less ↦ others (from + i) (λ e. absurd (omega (arith, e))) ∙ s.set i less
    | inr more ↦
        let same : i ≡ n = omega arith in
        rw same (one ∙ ap (λ word. with_bit word place (slice_index_or input n false)) (s.behind n (omega arith)))
  ];
  behind = λ i past. others (from + i) (λ e. absurd (omega (arith, e))) ∙ s.behind i (omega arith);
}

-- what the patterns of drawn words are
abbrev pub drawn-pattern : ℕ → ℕ → List ℕ → ℕ → List Bool
drawn-pattern inputs words drawn p = map (λ i. is_set (slice_index_or drawn (i * words + p / 64) 0) (p % 64)) (range_with_len 0 inputs)

abbrev pub added-pattern : ℕ → List ℕ → ℕ → List Bool
added-pattern inputs added p = map (λ i. is_set (slice_index_or added (p / 64 * inputs + i) 0) (p % 64)) (range_with_len 0 inputs)

module _ (inputs words : ℕ) (drawn : List ℕ) (count : ℕ) (added : List ℕ) (input : ℕ) (there : input < inputs) where
  abbrev all : List (List Bool)
  all = drawn_patterns inputs words drawn ++ added_patterns inputs count added

  -- the bits of a drawn word
  pub drawn-bits : (w b : ℕ) → w < words → b < 64
      → is_set (slice_index_or drawn (input * words + w) 0) b ≡ (nat_lt (64 * w + b) (length all) && truth_of all input (64 * w + b))
  drawn-bits w b inside within =
      let place : (64 * w + b) / 64 ≡ w = omega arith in
      let bit : (64 * w + b) % 64 ≡ b = omega arith in
      let size : length (drawn_patterns inputs words drawn) ≡ 64 * words = length-map-range_with_len (drawn-pattern inputs words drawn) 0 (64 * words) in
      let before : nat_lt (64 * w + b) (length all) ≡ true = lt-ltb _ _ (omega (arith, patterns-count inputs words drawn count added)) in
      let pattern : slice_index_or all (64 * w + b) [] ≡ drawn-pattern inputs words drawn (64 * w + b) =
      get_or_append_left (drawn_patterns inputs words drawn) (added_patterns inputs count added) [] (64 * w + b) (omega (arith, size))
      ∙ get_or-map-range_with_len (drawn-pattern inputs words drawn) 0 (64 * words) _ _ [] (omega arith) (omega arith) in
      rw (before, pattern) (sym (get_or-map-range_with_len (λ i. is_set (slice_index_or drawn (i * words + (64 * w + b) / 64) 0) ((64 * w + b) % 64)) 0 inputs input input false there (omega arith)
      ∙ ap (λ n. is_set (slice_index_or drawn (input * words + n) 0) ((64 * w + b) % 64)) place ∙ ap (λ n. is_set (slice_index_or drawn (input * words + w) 0) n) bit))

  -- a word of an added block stands inside
  pub added-inside : (w : ℕ) → length added ≡ inputs * words_of count → words ≤ w → w < words_of (64 * words + count)
      → (w - words) * inputs + input < length added
  added-inside w size behind inside =
      let block : w - words < words_of count = omega arith in
      omega (arith, size, mul_comm inputs (words_of count), row-inside (words_of count) inputs (w - words) input block there)

  -- the bits of an added word
  pub added-bits : (w b : ℕ) → IsClear inputs count added → words ≤ w → b < 64
      → is_set (slice_index_or added ((w - words) * inputs + input) 0) b ≡ (nat_lt (64 * w + b) (length all) && truth_of all input (64 * w + b))
  added-bits w b clear behind within = elim (less (64 * w + b) (length all)) [
    | inl p ↦
        let size : length (drawn_patterns inputs words drawn) ≡ 64 * words = length-map-range_with_len (drawn-pattern inputs words drawn) 0 (64 * words) in
        let left : 64 * w + b - 64 * words < count = omega (arith, p.1, patterns-count inputs words drawn count added) in
        let place : (64 * w + b - 64 * words) / 64 ≡ w - words = omega arith in
        let bit : (64 * w + b - 64 * words) % 64 ≡ b = omega arith in
        let pattern : slice_index_or all (64 * w + b) [] ≡ added-pattern inputs added (64 * w + b - 64 * words) =
        get_or-append_right (drawn_patterns inputs words drawn) (added_patterns inputs count added) (64 * words) (64 * w + b) [] size (omega arith)
        ∙ get_or-map-range_with_len (added-pattern inputs added) 0 count _ _ [] left (omega arith) in
        rw (p.0, pattern) (sym (get_or-map-range_with_len (λ i. is_set (slice_index_or added ((64 * w + b - 64 * words) / 64 * inputs + i) 0) ((64 * w + b - 64 * words) % 64)) 0 inputs input input false there (omega arith)
        ∙ ap (λ n. is_set (slice_index_or added (n * inputs + input) 0) ((64 * w + b - 64 * words) % 64)) place
        ∙ ap (λ n. is_set (slice_index_or added ((w - words) * inputs + input) 0) n) bit))
    | inr p ↦
        let past : count ≤ 64 * (w - words) + b = omega (arith, p.1, patterns-count inputs words drawn count added) in
        rw p.0 (ap (λ n. n == 1) (clear (w - words) input b there within past))
  ]
