-- Places of a trail.
use Rattle.std.proofs.Common.{◌≡◌, ◌<◌, ◌≤◌, ℕ, zero, suc, arith, Bool, true, false, inl, inr, List, [], ◌∷◌, take, nat_le, length, refl, sym, ap, ◌∙◌}
use Rattle.std.proofs.lemmas.Bool.Decides.{nat_tests}
use Rattle.std.proofs.lemmas.Bool.{or_cases, or_left, or_right, and_parts, not-true}
use Rattle.lits.specs.Clause.{has, no_repeat}
use Rattle.lits.specs.Same.{same_lit}
use Rattle.lits.specs.declared.literal.Lit.{Lit}
use Rattle.lits.proofs.Facts.{lit_laws}
use Rattle.unit_prop.proofs.Facts.{contrary}
use Rattle.watch_lists.specs.Trail.{put_at, lits_of, up_to}
use Rattle.watch_lists.specs.declared.put.Put.{Put}
use Rattle.watch_lists.proofs.Facts.{le-test}

-- a literal of the trail has a place
pub place-of : (puts : List Put) (l : Lit) → has same_lit (lits_of puts) l ≡ true
    → (k : ℕ) × (k < length puts) × ((put_at puts k).lit ≡ l)
place-of [] l h = cc
place-of (p ∷ ps) l h =
    elim (or_cases (same_lit p.lit l) (has same_lit (lits_of ps) l) h) [
      | inl e ↦ (0, omega arith, lit_laws.exact p.lit l e)
      | inr e ↦ let w = place-of ps l e in (suc w.0, omega (arith, w.1), w.2)
    ]

pub has-at : (puts : List Put) (k : ℕ) → k < length puts → has same_lit (lits_of puts) (put_at puts k).lit ≡ true
has-at [] k h = absurd (omega arith)
has-at (p ∷ ps) zero h = or_left _ _ (lit_laws.equivalence.refl p.lit)
has-at (p ∷ ps) (suc k) h = or_right (same_lit p.lit (put_at ps k).lit) _ (has-at ps k (omega arith))

-- a literal has one place alone
pub place-one : (puts : List Put) (j k : ℕ) → no_repeat same_lit (lits_of puts) ≡ true → j < length puts → k < length puts
    → (put_at puts j).lit ≡ (put_at puts k).lit → j ≡ k
place-one [] j k once hj hk e = absurd (omega arith)
place-one (p ∷ ps) zero zero once hj hk e = refl
place-one (p ∷ ps) zero (suc k) once hj hk e =
    let none = not-true _ (and_parts _ _ once).0 in
    contrary _ (has-at ps k (omega arith)) (ap (has same_lit (lits_of ps)) (sym e) ∙ none)
place-one (p ∷ ps) (suc j) zero once hj hk e =
    let none = not-true _ (and_parts _ _ once).0 in
    contrary _ (has-at ps j (omega arith)) (ap (has same_lit (lits_of ps)) e ∙ none)
place-one (p ∷ ps) (suc j) (suc k) once hj hk e =
    ap (λ (n : ℕ). suc n) (place-one ps j k (and_parts _ _ once).1 (omega arith) (omega arith) e)

-- a place of a first part
pub place-before : (puts : List Put) (n : ℕ) (l : Lit) → has same_lit (lits_of (take n puts)) l ≡ true
    → (k : ℕ) × (k < n) × (k < length puts) × ((put_at puts k).lit ≡ l)
place-before [] zero l h = cc
place-before [] (suc n) l h = cc
place-before (p ∷ ps) zero l h = cc
place-before (p ∷ ps) (suc n) l h =
    elim (or_cases (same_lit p.lit l) (has same_lit (lits_of (take n ps)) l) h) [
      | inl e ↦ (0, omega arith, omega arith, lit_laws.exact p.lit l e)
      | inr e ↦ let w = place-before ps n l e in (suc w.0, omega (arith, w.1), omega (arith, w.2), w.3)
    ]

le-of : (a b : ℕ) → nat_le a b ≡ true → a ≤ b
le-of a b h = grind (arith, nat_tests)

pub up_to-at : (puts : List Put) (level k : ℕ) → k < length puts → (put_at puts k).level ≤ level
    → has same_lit (lits_of (up_to level puts)) (put_at puts k).lit ≡ true
up_to-at [] level k h low = absurd (omega arith)
up_to-at (p ∷ ps) level zero h low = rw (le-test p.level level low) (or_left _ _ (lit_laws.equivalence.refl p.lit))
up_to-at (p ∷ ps) level (suc k) h low = go (nat_le p.level level) refl (up_to-at ps level k (omega arith) low)
  where
    go : (b : Bool) → nat_le p.level level ≡ b → has same_lit (lits_of (up_to level ps)) (put_at ps k).lit ≡ true
        → has same_lit (lits_of (up_to level (p ∷ ps))) (put_at ps k).lit ≡ true
    go true e rest = rw e (or_right (same_lit p.lit (put_at ps k).lit) _ rest)
    go false e rest = rw e rest

pub place-up_to : (puts : List Put) (level : ℕ) (l : Lit) → has same_lit (lits_of (up_to level puts)) l ≡ true
    → (k : ℕ) × (k < length puts) × ((put_at puts k).lit ≡ l) × ((put_at puts k).level ≤ level)
place-up_to [] level l h = cc
place-up_to (p ∷ ps) level l h = go (nat_le p.level level) refl (place-up_to ps level l)
  where
    deeper : (k : ℕ) × (k < length ps) × ((put_at ps k).lit ≡ l) × ((put_at ps k).level ≤ level)
        → (k : ℕ) × (k < length (p ∷ ps)) × ((put_at (p ∷ ps) k).lit ≡ l) × ((put_at (p ∷ ps) k).level ≤ level)
    deeper w = (suc w.0, omega (arith, w.1), w.2, w.3)

    go : (b : Bool) → nat_le p.level level ≡ b
        → (has same_lit (lits_of (up_to level ps)) l ≡ true
        → (k : ℕ) × (k < length ps) × ((put_at ps k).lit ≡ l) × ((put_at ps k).level ≤ level))
        → (k : ℕ) × (k < length (p ∷ ps)) × ((put_at (p ∷ ps) k).lit ≡ l) × ((put_at (p ∷ ps) k).level ≤ level)
    go false e rest = deeper (rest (rw e at h))
    go true e rest =
        elim (or_cases (same_lit p.lit l) (has same_lit (lits_of (up_to level ps)) l) (rw e at h)) [
          | inl f ↦ (0, omega arith, lit_laws.exact p.lit l f, le-of p.level level e)
          | inr f ↦ deeper (rest f)
        ]

-- of levels the lower one counts
pub up_to-up_to : (puts : List Put) (low level : ℕ) → low ≤ level → up_to low (up_to level puts) ≡ up_to low puts
up_to-up_to [] low level h = refl
up_to-up_to (p ∷ ps) low level h = go (nat_le p.level level) (nat_le p.level low) refl refl (up_to-up_to ps low level h)
  where
    go : (a b : Bool) → nat_le p.level level ≡ a → nat_le p.level low ≡ b → up_to low (up_to level ps) ≡ up_to low ps
        → up_to low (up_to level (p ∷ ps)) ≡ up_to low (p ∷ ps)
    go true true e f rest = rw (e, f) (ap (λ (qs : List Put). p ∷ qs) rest)
    go true false e f rest = rw (e, f) rest
    go false false e f rest = rw (e, f) rest
    go false true e f rest =
        let low_is : p.level ≤ low = le-of p.level low f in
        let past : nat_le p.level level ≡ true = le-test p.level level (omega arith) in
        contrary _ past e
