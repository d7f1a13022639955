-- The draws of a generator, one after another.
use Rattle.std.proofs.Common.{◌≡◌, ◌∙◌, ℕ, ◌+◌, suc, sym, ap}
use native.Mathlib.Omega.{arith}
use Rattle.rand_core.specs.Pcg32Seed.{pcg32_seed}
use Rattle.rand_pcg.specs.Lcg.{Lcg}
use Rattle.rand_pcg.specs.Pcg.{pcg64, pcg64_of_seed}
use Rattle.word_sim.specs.Patterns.{after, generator, draw}

-- the seeded generator has drawn nothing yet
pub after-start : (seed : ℕ) (g : Lcg) → g ≡ pcg64_of_seed (pcg32_seed 32 seed) → g ≡ after (generator seed) 0
unfolding after generator
after-start seed g e = e

-- one draw
pub draws-next : (seed k word : ℕ) (g next : Lcg) → g ≡ after (generator seed) k → (word, next) ≡ pcg64 g
    → (word ≡ draw seed k) × (next ≡ after (generator seed) (k + 1))
unfolding after draw
draws-next seed k word g next e d =
    let p : (word, next) ≡ pcg64 (after (generator seed) k) = d ∙ ap pcg64 e in
    let more : k + 1 ≡ suc k = omega arith in
    (ap (λ (q : ℕ × Lcg). q.0) p, ap (λ (q : ℕ × Lcg). q.1) p ∙ sym (ap (after (generator seed)) more))
