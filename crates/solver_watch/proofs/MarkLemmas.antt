-- Marks as stamps.
use Rattle.std.proofs.Common.{◌≡◌, ◌≤◌, ◌<◌, ◌+◌, ℕ, zero, suc, arith, Bool, true, false, List, [], ◌∷◌, map, nat_eq, get_or, set, length, refl, ◌∙◌, ap}
use Rattle.std.specs.List.{All}
use Rattle.std.proofs.lemmas.List.{map-set}
use Rattle.std.proofs.lemmas.List.Elements.{All-get_or}
use Rattle.std.proofs.lemmas.Bool.Decides.{nat_tests}
use Rattle.watch_lists.proofs.Facts.{same_refl}

stale_each : (xs : List ℕ) (n : ℕ) → ((i : ℕ) → i < length xs → get_or xs i 0 ≤ n) → (k : ℕ)
    → get_or (map (λ s. nat_eq s (n + 1)) xs) k false ≡ false
stale_each [] n low k = refl
stale_each (x ∷ xs) n low zero = above x n (low 0 (omega arith))
  where
    above : (y m : ℕ) → y ≤ m → nat_eq y (m + 1) ≡ false
    above y m h = grind (arith, nat_tests)
stale_each (x ∷ xs) n low (suc k) = stale_each xs n (λ i h. low (suc i) (omega arith)) k

-- no stamp is the next one
pub stale : (xs : List ℕ) (n : ℕ) → All (λ s. s ≤ n) xs → (k : ℕ) → get_or (map (λ s. nat_eq s (n + 1)) xs) k false ≡ false
stale xs n all = stale_each xs n (λ i h. All-get_or (λ s. s ≤ n) xs i 0 h all)

-- the latest stamp is a mark
pub stamped : (xs : List ℕ) (n k : ℕ) (marks : List Bool) → map (λ s. nat_eq s n) xs ≡ marks
    → map (λ s. nat_eq s n) (set xs k n) ≡ set marks k true
stamped xs n k marks e = map-set (λ s. nat_eq s n) xs k n ∙ (ap (λ (b : Bool). set (map (λ s. nat_eq s n) xs) k b) (same_refl n) ∙ ap (λ (ms : List Bool). set ms k true) e)
