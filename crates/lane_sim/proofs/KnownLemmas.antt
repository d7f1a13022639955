-- Rows whose first words are known.
use Rattle.std.proofs.Common.{◌≡◌, ◌∙◌, ℕ, ◌+◌, ◌*◌, ◌-◌, ◌/◌, ◌<◌, ◌≤◌, ◌&&◌, nat_lt, Bool, List, [], ◌++◌, length, take, drop, refl, sym, ap, subst, inl, inr, length-append, length-drop, length-take}
use native.Mathlib.Omega.{arith}
use Rattle.std.specs.List.{slice_index_or}
use Rattle.std.proofs.lemmas.Bool.{cases_lt, lt-ltb, ltb-true, ltb_from_iff}
use Rattle.std.proofs.lemmas.List.{get_or_append_left, get_or-append-add, get_or-drop, get_or-take, take_rest}
use Rattle.netlist.specs.declared.gate.Fanins.{Fanins}
use Rattle.netlist.specs.Net.{AigPair, nodes_of, node_at, value_of}
use Rattle.netlist.proofs.Facts.{IsGateAt}
use Rattle.word_sim.specs.Patterns.{is_set, words_of}
use Rattle.word_sim.specs.Rows.{HasBits, Signatures, AreSignatures, AreFilled, IsPut, row_at, turned, value_on}
use Rattle.word_sim.proofs.Facts.{filled-next, bits-same}
use Rattle.lane_sim.specs.Known.{AreKnown}

-- a comparison of places that are both further on
lt-further : (k w b count : ℕ) → 64 * k ≤ count → nat_lt (64 * w + b) (count - 64 * k) ≡ nat_lt (64 * (k + w) + b) count
lt-further k w b count few =
    ltb_from_iff (λ h. omega (arith, few, ltb-true (64 * w + b) (count - 64 * k) h), λ h. lt-ltb (64 * w + b) (count - 64 * k) (omega (arith, few, h)))

-- the words behind the first k
pub bits-behind : (count k : ℕ) (f : ℕ → Bool) (row : List ℕ) → 64 * k ≤ count → HasBits count f row
    → HasBits (count - 64 * k) (λ p. f (64 * k + p)) (take (length row - k) (drop k row))
bits-behind count k f row few bits = subst (λ (xs : List ℕ). HasBits (count - 64 * k) (λ p. f (64 * k + p)) xs) (sym (take_rest row k)) (record {
  size = omega (arith, length-drop k row, bits.size, few);
  bits = λ w b inside within.
      let there : k + w < length row = omega (arith, length-drop k row, inside) in
      let place : 64 * (k + w) + b ≡ 64 * k + (64 * w + b) = omega arith in
      ap (λ (x : ℕ). is_set x b) (get_or-drop k row w 0)
      ∙ bits.bits (k + w) b there within
      ∙ ap (λ (t : Bool). t && f (64 * (k + w) + b)) (sym (lt-further k w b count few))
      ∙ ap (λ (p : ℕ). nat_lt (64 * w + b) (count - 64 * k) && f p) place;
})

-- words before some others
pub bits-joined : (count k : ℕ) (f : ℕ → Bool) (first new : List ℕ) → 64 * k ≤ count → length first ≡ k → HasBits (64 * k) f first
    → HasBits (count - 64 * k) (λ p. f (64 * k + p)) new → HasBits count f (first ++ new)
bits-joined count k f first new few long known bits = record {
  size = omega (arith, length-append first new, long, bits.size, few);
  bits = λ w b inside within. elim (cases_lt w k) [
    | inl less ↦
        let before : nat_lt (64 * w + b) (64 * k) ≡ nat_lt (64 * w + b) count =
        lt-ltb (64 * w + b) (64 * k) (omega (arith, less, within)) ∙ sym (lt-ltb (64 * w + b) count (omega (arith, less, within, few))) in
        ap (λ (x : ℕ). is_set x b) (get_or_append_left first new 0 w (omega (arith, long, less)))
        ∙ known.bits w b (omega (arith, long, less)) within
        ∙ ap (λ (t : Bool). t && f (64 * w + b)) before
    | inr more ↦
        let word : w ≡ length first + (w - k) = omega (arith, long, more) in
        let place : 64 * k + (64 * (w - k) + b) ≡ 64 * w + b = omega (arith, more) in
        let same : k + (w - k) ≡ w = omega (arith, more) in
        ap (λ (j : ℕ). is_set (slice_index_or (first ++ new) j 0) b) word
        ∙ ap (λ (x : ℕ). is_set x b) (get_or-append-add first new (w - k) 0)
        ∙ bits.bits (w - k) b (omega (arith, length-append first new, long, inside, more)) within
        ∙ ap (λ (t : Bool). t && f (64 * k + (64 * (w - k) + b))) (lt-further k (w - k) b count few)
        ∙ ap (λ (j : ℕ). nat_lt (64 * j + b) count && f (64 * k + (64 * (w - k) + b))) same
        ∙ ap (λ (p : ℕ). nat_lt (64 * w + b) count && f p) place
  ];
}

-- the first words of a row
pub bits-first : (count k : ℕ) (f g : ℕ → Bool) (row : List ℕ) → 64 * k ≤ count → ((p : ℕ) → p < count → f p ≡ g p) → HasBits count f row
    → HasBits (64 * k) g (take k row)
bits-first count k f g row few same bits = record {
  size = omega (arith, length-take k row, bits.size, few);
  bits = λ w b inside within.
      let less : w < k = omega (arith, length-take k row, inside) in
      let here : 64 * w + b < 64 * k = omega (arith, less, within) in
      ap (λ (x : ℕ). is_set x b) (get_or-take k row w 0 less)
      ∙ bits.bits w b (omega (arith, length-take k row, inside)) within
      ∙ ap (λ (t : Bool). t && f (64 * w + b)) (lt-ltb (64 * w + b) count (omega (arith, here, few)) ∙ sym (lt-ltb (64 * w + b) (64 * k) here))
      ∙ ap (λ (t : Bool). nat_lt (64 * w + b) (64 * k) && t) (same (64 * w + b) (omega (arith, here, few)));
}

-- the row of a gate comes next, of its known words and the rows of its fanins
pub known-next : (net : AigPair) (patterns : List (List Bool)) (f : Fanins) (words count position : ℕ) (known old new : List ℕ)
    → IsGateAt net position f → words ≡ words_of count → count ≡ length patterns → AreFilled net patterns position old
    → IsPut words position old new
    → ((left right : ℕ → Bool) → HasBits count left (row_at words f.left.position old) → HasBits count right (row_at words f.right.position old)
    → HasBits (64 * length known) (λ p. turned f.left.neg (left p) && turned f.right.neg (right p)) known
    → HasBits count (λ p. turned f.left.neg (left p) && turned f.right.neg (right p)) (row_at words position new))
    → HasBits (64 * length known) (value_on net patterns (node_at net position)) known
    → AreFilled net patterns (position + 1) new
known-next net patterns f words count position known old new gate wide many filled put row begun =
    let same : words ≡ words_of (length patterns) = wide ∙ ap words_of many in
    let left = value_on net patterns (node_at net f.left.position) in
    let right = value_on net patterns (node_at net f.right.position) in
    let both : (p : ℕ) → value_on net patterns (node_at net position) p ≡ (turned f.left.neg (left p) && turned f.right.neg (right p)) =
    λ p. gate.value (slice_index_or patterns p []) in
    let old-row : (q : ℕ) → q < position → HasBits count (value_on net patterns (node_at net q)) (row_at words q old) =
    λ q below. subst (λ (w : ℕ). HasBits count (value_on net patterns (node_at net q)) (row_at w q old)) (sym same)
    (subst (λ (n : ℕ). HasBits n (value_on net patterns (node_at net q)) (row_at (words_of (length patterns)) q old)) (sym many) (filled.each q below)) in
    let next : HasBits count (value_on net patterns (node_at net position)) (row_at words position new) =
    bits-same count _ _ _ (λ p. sym (both p))
    (row left right (old-row f.left.position gate.left) (old-row f.right.position gate.right) (bits-same (64 * length known) _ _ known both begun)) in
    filled-next net patterns position old new filled (subst (λ (w : ℕ). IsPut w position old new) same put)
    (subst (λ (w : ℕ). HasBits (length patterns) (value_on net patterns (node_at net position)) (row_at w position new)) same
    (subst (λ (n : ℕ). HasBits n (value_on net patterns (node_at net position)) (row_at words position new)) many next))

-- nothing is known
pub none-known : (net : AigPair) (patterns : List (List Bool)) → AreKnown net patterns 0 0 []
none-known net patterns = record {
  few = omega arith;
  wide = omega arith;
  room = omega arith;
  each = λ p below. record { size = refl; bits = λ w b inside within. absurd (omega arith) };
}

-- the whole words of rows on the first patterns
pub signatures-known : (net : AigPair) (patterns : List (List Bool)) (sigs : Signatures) (rows : List ℕ)
    → AreSignatures net (take sigs.patterns patterns) sigs → length rows ≡ length sigs.rows * words_of sigs.patterns
    → ((p : ℕ) → p < length sigs.rows → row_at (words_of sigs.patterns) p rows ≡ slice_index_or sigs.rows p [])
    → AreKnown net patterns (sigs.patterns / 64) (words_of sigs.patterns) rows
signatures-known net patterns sigs rows are size each =
    let some : length (take sigs.patterns patterns) ≡ sigs.patterns = sym are.size in
    let few : sigs.patterns ≤ length patterns = omega (arith, some, length-take sigs.patterns patterns) in
    record {
      few = omega (arith, few);
      wide = omega arith;
      room = omega (arith, size, ap (λ (n : ℕ). n * words_of sigs.patterns) are.count);
      each = λ p below.
          let inside : p < length sigs.rows = omega (arith, are.count, below) in
          subst (λ (row : List ℕ). HasBits (64 * (sigs.patterns / 64)) (value_on net patterns (node_at net p)) (take (sigs.patterns / 64) row))
          (sym (each p inside))
          (bits-first sigs.patterns (sigs.patterns / 64) (value_on net (take sigs.patterns patterns) (node_at net p)) (value_on net patterns (node_at net p))
          (slice_index_or sigs.rows p []) (omega arith)
          (λ q less. ap (λ (bits : List Bool). value_of net bits (node_at net p)) (get_or-take sigs.patterns patterns q [] less))
          (subst (λ (n : ℕ). HasBits n (value_on net (take sigs.patterns patterns) (node_at net p)) (slice_index_or sigs.rows p [])) some (are.each p inside)));
    }

-- how many words of a row are known
pub known-size : (net : AigPair) (patterns : List (List Bool)) (words stride : ℕ) (rows : List ℕ) → AreKnown net patterns words stride rows
    → (p : ℕ) (row : List ℕ) → p < length (nodes_of net) → row ≡ take words (row_at stride p rows) → length row ≡ words
known-size net patterns words stride rows known p row below is =
    omega (arith, ap (λ (xs : List ℕ). length xs) is, (known.each p below).size)
