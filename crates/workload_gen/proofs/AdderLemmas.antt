-- One more bit, one more choice, one more block.
use Rattle.std.proofs.Common.{◌≡◌, ℕ, suc, ◌+◌, ◌-◌, ◌*◌, ◌<◌, ◌≤◌, min, List, [], ◌∷◌, ◌++◌, length, get_or, drop, refl, sym, ap, ◌∙◌, arith, add-one, drop-cons}
use Rattle.std.proofs.lemmas.List.{drop_all}
use Rattle.lits.proofs.Facts.{left-more, left-none}
use Rattle.workload_gen.specs.Gates.{Draft, start, input_literal, full_adder, mux_gate}
use Rattle.workload_gen.specs.Adder.{summed, chosen, selected, blocks}

pub summed-more : (n to k : ℕ) (sums : List ℕ) (a b c : ℕ) (d : Draft) (s carry : ℕ) (e : Draft) → k < to
    → a ≡ input_literal k → b ≡ input_literal (n + k) → ((s, carry), e) ≡ full_adder a b c d
    → summed n (to - k) k sums c d ≡ summed n (to - (k + 1)) (k + 1) (sums ++ s ∷ []) carry e
unfolding summed
summed-more n to k sums a b c d s carry e lt first second is =
    ap (λ (m : ℕ). summed n m k sums c d) (left-more to k lt)
    ∙ ap (λ (p : (ℕ × ℕ) × Draft). summed n (to - (k + 1)) (k + 1) (sums ++ p.0.0 ∷ []) p.0.1 p.1)
    (sym (is ∙ ap (λ (x : ℕ). full_adder x b c d) first ∙ ap (λ (y : ℕ). full_adder (input_literal k) y c d) second))

pub summed-end : (n to k : ℕ) (sums : List ℕ) (c : ℕ) (d : Draft) → to ≤ k → summed n (to - k) k sums c d ≡ ((sums, c), d)
unfolding summed
summed-end n to k sums c d le = rw (left-none to k le) refl

-- all bits
pub summed-whole : (n : ℕ) (sums : List ℕ) (d : Draft) (p : (List ℕ × ℕ) × Draft) → p ≡ summed n (n - 0) 0 sums 0 d → sums ≡ [] → d ≡ start (2 * n)
    → p ≡ summed n n 0 [] 0 (start (2 * n))
summed-whole n sums d p is none at =
    let all : n - 0 ≡ n = omega arith in
    is ∙ ap (λ (m : ℕ). summed n m 0 sums 0 d) all ∙ ap (λ (l : List ℕ). summed n n 0 l 0 d) none
    ∙ ap (λ (e : Draft). summed n n 0 [] 0 e) at

pub chosen-more : (c i : ℕ) (xs ys sums : List ℕ) (d : Draft) (z : ℕ) (e : Draft) → i < length xs → length xs ≡ length ys
    → (z, e) ≡ mux_gate c (get_or xs i 0) (get_or ys i 0) d
    → chosen c (drop i xs) (drop i ys) sums d ≡ chosen c (drop (i + 1) xs) (drop (i + 1) ys) (sums ++ z ∷ []) e
unfolding chosen
chosen-more c i xs ys sums d z e lt same is =
    rw (add-one i) (ap (λ (l : List ℕ). chosen c l (drop i ys) sums d) (drop-cons xs i 0 lt)
    ∙ ap (λ (l : List ℕ). chosen c (get_or xs i 0 ∷ drop (suc i) xs) l sums d) (drop-cons ys i 0 (omega arith))
    ∙ ap (λ (p : ℕ × Draft). chosen c (drop (suc i) xs) (drop (suc i) ys) (sums ++ p.0 ∷ []) p.1) (sym is))

pub chosen-end : (c i : ℕ) (xs ys sums : List ℕ) (d : Draft) → length xs ≤ i → chosen c (drop i xs) (drop i ys) sums d ≡ (sums, d)
unfolding chosen
chosen-end c i xs ys sums d le = ap (λ (l : List ℕ). chosen c l (drop i ys) sums d) (drop_all i xs le)

pub blocks-more : (n number k from to : ℕ) (sums : List ℕ) (c : ℕ) (d : Draft) (more_sums : List ℕ) (carry : ℕ) (e : Draft) → k < number
    → from ≡ 4 * k → to ≡ min n (from + 4) → ((more_sums, carry), e) ≡ selected n (to - from) from sums c d
    → blocks n (number - k) (4 * k) sums c d ≡ blocks n (number - (k + 1)) (4 * (k + 1)) more_sums carry e
unfolding blocks
blocks-more n number k from to sums c d more_sums carry e lt at end is =
    let width : to - from ≡ min 4 (n - 4 * k) = omega arith in
    let next : 4 * (k + 1) ≡ 4 * k + 4 = omega arith in
    let here : selected n (min 4 (n - 4 * k)) (4 * k) sums c d ≡ ((more_sums, carry), e) =
    sym (is ∙ ap (λ (w : ℕ). selected n w from sums c d) width ∙ ap (λ (f : ℕ). selected n (min 4 (n - 4 * k)) f sums c d) at) in
    rw next (ap (λ (m : ℕ). blocks n m (4 * k) sums c d) (left-more number k lt)
    ∙ ap (λ (p : (List ℕ × ℕ) × Draft). blocks n (number - (k + 1)) (4 * k + 4) p.0.0 p.0.1 p.1) here)

pub blocks-end : (n number k : ℕ) (sums : List ℕ) (c : ℕ) (d : Draft) → number ≤ k → blocks n (number - k) (4 * k) sums c d ≡ ((sums, c), d)
unfolding blocks
blocks-end n number k sums c d le = rw (left-none number k le) refl
