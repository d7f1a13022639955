-- One more bit of a comparison.
use Rattle.std.proofs.Common.{◌≡◌, ℕ, suc, ◌+◌, ◌-◌, ◌<◌, ◌≤◌, refl, sym, ap, ◌∙◌, arith}
use Rattle.lits.proofs.Facts.{left-more, left-none}
use Rattle.workload_gen.specs.Gates.{Draft}
use Rattle.workload_gen.specs.Comparator.{raised_bit, raised, lowered_bit, lowered}

pub raised-more : (n k less : ℕ) (d e : Draft) (l : ℕ) → k < n → (l, e) ≡ raised_bit n k less d
    → raised n (n - k) k less d ≡ raised n (n - (k + 1)) (k + 1) l e
unfolding raised
raised-more n k less d e l lt is =
    ap (λ (m : ℕ). raised n m k less d) (left-more n k lt)
    ∙ ap (λ (p : ℕ × Draft). raised n (n - (k + 1)) (k + 1) p.0 p.1) (sym is)

pub raised-end : (n k less : ℕ) (d : Draft) → n ≤ k → raised n (n - k) k less d ≡ (less, d)
unfolding raised
raised-end n k less d le = rw (left-none n k le) refl

pub lowered-more : (n i k equal less : ℕ) (d e : Draft) (x l : ℕ) → i < n → k ≡ n - 1 - i → ((x, l), e) ≡ lowered_bit n k equal less d
    → lowered n (n - i) equal less d ≡ lowered n (n - (i + 1)) x l e
unfolding lowered
lowered-more n i k equal less d e x l lt at is =
    let bits : n - i ≡ suc k = omega arith in
    let left : n - (i + 1) ≡ k = omega arith in
    rw left (ap (λ (m : ℕ). lowered n m equal less d) bits
    ∙ ap (λ (p : (ℕ × ℕ) × Draft). lowered n k p.0.0 p.0.1 p.1) (sym is))

pub lowered-end : (n i equal less : ℕ) (d : Draft) → n ≤ i → lowered n (n - i) equal less d ≡ (less, d)
unfolding lowered
lowered-end n i equal less d le = rw (left-none n i le) refl
