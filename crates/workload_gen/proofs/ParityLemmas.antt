-- One more input, one more pair, one more round.
use Rattle.std.proofs.Common.{◌≡◌, ℕ, zero, suc, ◌+◌, ◌-◌, ◌*◌, ◌/◌, ◌<◌, ◌≤◌, List, [], ◌∷◌, ◌++◌, length, get_or, take, drop, drop-cons, length-drop, map, refl, sym, ap, ◌∙◌, arith, append-nil}
use Rattle.std.specs.List.{range_with_len}
use Rattle.std.proofs.lemmas.List.{take_all}
use Rattle.std.proofs.lemmas.List.FromFn.{length-map-range_with_len}
use Rattle.lits.proofs.Facts.{left-more, left-none}
use Rattle.workload_gen.specs.Gates.{Draft, start, input_literal, xor_gate}
use Rattle.workload_gen.specs.Parity.{chained, joined, rounds, parity_tree}

pub chained-more : (n k c x : ℕ) (d : Draft) (z : ℕ) (e : Draft) → k < n → x ≡ input_literal k → (z, e) ≡ xor_gate c x d
    → chained (n - k) k c d ≡ chained (n - (k + 1)) (k + 1) z e
unfolding chained
chained-more n k c x d z e lt here is =
    ap (λ (m : ℕ). chained m k c d) (left-more n k lt)
    ∙ ap (λ (p : ℕ × Draft). chained (n - (k + 1)) (k + 1) p.0 p.1) (sym (is ∙ ap (λ (y : ℕ). xor_gate c y d) here))

pub chained-end : (n k c : ℕ) (d : Draft) → n ≤ k → chained (n - k) k c d ≡ (c, d)
unfolding chained
chained-end n k c d le = rw (left-none n k le) refl

pub joined-more : (done row : List ℕ) (i : ℕ) (d : Draft) (z : ℕ) (e : Draft) → 2 * i + 1 < length row
    → (z, e) ≡ xor_gate (get_or row (2 * i) 0) (get_or row (2 * i + 1) 0) d
    → joined done (drop (2 * i) row) d ≡ joined (done ++ z ∷ []) (drop (2 * (i + 1)) row) e
unfolding joined
joined-more done row i d z e lt made =
    let second : suc (2 * i) ≡ 2 * i + 1 = omega arith in
    let third : suc (2 * i + 1) ≡ 2 * (i + 1) = omega arith in
    ap (λ (l : List ℕ). joined done l d) (drop-cons row (2 * i) 0 (omega arith))
    ∙ ap (λ (k : ℕ). joined done (get_or row (2 * i) 0 ∷ drop k row) d) second
    ∙ ap (λ (l : List ℕ). joined done (get_or row (2 * i) 0 ∷ l) d) (drop-cons row (2 * i + 1) 0 lt)
    ∙ ap (λ (k : ℕ). joined done (get_or row (2 * i) 0 ∷ get_or row (2 * i + 1) 0 ∷ drop k row) d) third
    ∙ ap (λ (p : ℕ × Draft). joined (done ++ p.0 ∷ []) (drop (2 * (i + 1)) row) p.1) (sym made)

joined-end : (done rest : List ℕ) (d : Draft) → length rest ≤ 1 → joined done rest d ≡ (done ++ rest, d)
unfolding joined
joined-end done [] d le = rw append-nil refl
joined-end done (x ∷ []) d le = refl
joined-end done (x ∷ y ∷ rest) d le = absurd (omega arith)

pub joined-all : (done row new : List ℕ) (i j : ℕ) (d : Draft) → length row / 2 ≤ i → i ≤ length row / 2 → j ≡ length row / 2 * 2
    → new ≡ done ++ take (length row - j) (drop j row) → joined done (drop (2 * i) row) d ≡ (new, d)
joined-all done row new i j d above below at is =
    let same : 2 * i ≡ j = omega arith in
    ap (λ (k : ℕ). joined done (drop k row) d) same
    ∙ joined-end done (drop j row) d (omega (arith, length-drop j row))
    ∙ ap (λ (l : List ℕ). (done ++ l, d)) (sym (take_all (length row - j) (drop j row) (omega (arith, length-drop j row))))
    ∙ ap (λ (l : List ℕ). (l, d)) (sym is)

-- enough rounds are left to end with this row and draft
pub record Goes (row : List ℕ) (d : Draft) (whole : List ℕ × Draft) : Type 0 where
  pub left : ℕ
  pub enough : length row ≤ left
  pub rest : rounds left row d ≡ whole

pub Goes-inputs : (n : ℕ) (row : List ℕ) (d : Draft) → row ≡ map input_literal (range_with_len 0 n) → d ≡ start n
    → Goes row d (parity_tree n (start n))
Goes-inputs n row d is at = record {
  left = n;
  enough = omega (arith, ap length is, length-map-range_with_len input_literal 0 n);
  rest = ap (λ (r : List ℕ). rounds n r d) is ∙ ap (λ (e : Draft). rounds n (map input_literal (range_with_len 0 n)) e) at;
}

pub Goes-more : (slice row : List ℕ) (d : Draft) (whole : List ℕ × Draft) (shorter : List ℕ) (e : Draft) → Goes row d whole → slice ≡ row → 1 < length row
    → (shorter, e) ≡ joined [] slice d → length shorter ≡ (length slice + 1) / 2 → Goes shorter e whole
unfolding rounds
Goes-more slice row d whole shorter e goes same some is size = go goes.left goes.enough goes.rest
  where
    go : (left : ℕ) → length row ≤ left → rounds left row d ≡ whole → Goes shorter e whole
    go zero enough rest = absurd (omega arith)
    go (suc left) enough rest =
        let shortened = is ∙ ap (λ (l : List ℕ). joined [] l d) same in
        record {
          left = left;
          enough = omega (arith, size, ap length same);
          rest = ap (λ (p : List ℕ × Draft). rounds left p.0 p.1) shortened ∙ rest;
        }

one-stays : (left : ℕ) (row : List ℕ) (d : Draft) → length row ≤ 1 → rounds left row d ≡ (row, d)
unfolding rounds
one-stays zero row d le = refl
one-stays (suc left) row d le = rw (joined-end [] row d le) (one-stays left row d le)

pub Goes-end : (row : List ℕ) (d : Draft) (whole : List ℕ × Draft) → Goes row d whole → length row ≤ 1 → whole ≡ (row, d)
Goes-end row d whole goes le = sym goes.rest ∙ one-stays goes.left row d le
