-- How many marked places a level has.
use Rattle.std.proofs.Common.{◌≡◌, ◌≢◌, ◌<◌, ◌≤◌, ◌+◌, ℕ, zero, suc, arith, Bool, true, false, ◌&&◌, inl, inr, List, nat_eq, set, length, refl, sym, ap, subst, ◌∙◌, get_or-set_other, get_or-set_same}
use Rattle.std.specs.Prelude.{if◌then◌else◌}
use Rattle.std.proofs.lemmas.Bool.Decides.{nat_tests}
use Rattle.std.proofs.Math.Nat.{eq-or-lt_of_le}
use Rattle.unit_prop.proofs.Facts.{contrary}
use Rattle.watch_lists.specs.Trail.{put_at}
use Rattle.watch_lists.specs.declared.put.Put.{Put}
use Rattle.watch_lists.proofs.Facts.{same_exact}
use Rattle.solver_watch.specs.Marked.{is_marked, open_below}

pub apart-false : (a b : ℕ) → a ≢ b → nat_eq a b ≡ false
apart-false a b ne = go (nat_eq a b) refl
  where
    go : (t : Bool) → nat_eq a b ≡ t → nat_eq a b ≡ false
    go true e = absurd (ne (same_exact a b e))
    go false e = e

pub true-same : (a b : ℕ) → a ≡ b → nat_eq a b ≡ true
true-same a b e = grind (arith, nat_tests)

pub marked-other : (marks : List Bool) (p k : ℕ) → k ≢ p → is_marked (set marks p true) k ≡ is_marked marks k
marked-other marks p k ne = get_or-set_other marks p k true false ne

pub marked-same : (marks : List Bool) (p : ℕ) → p < length marks → is_marked (set marks p true) p ≡ true
marked-same marks p h = get_or-set_same marks p true false h

module _ (puts : List Put) (level : ℕ) where
  -- marks from n on don't count
  pub open-before : (old new : List Bool) (n : ℕ) → ((k : ℕ) → k < n → is_marked new k ≡ is_marked old k)
      → open_below puts level new n ≡ open_below puts level old n
  open-before old new zero same = refl
  open-before old new (suc n) same =
      rw (open-before old new n (λ k h. same k (omega arith)), same n (omega arith)) refl

  pub open-set : (marks : List Bool) (p n : ℕ) → p < n → p < length marks → is_marked marks p ≡ false
      → open_below puts level (set marks p true) n
      ≡ open_below puts level marks n + (if nat_eq (put_at puts p).level level then 1 else 0)
  open-set marks p zero h within e = absurd (omega arith)
  open-set marks p (suc n) h within e = go (nat_eq p n) refl (λ less. open-set marks p n less within e)
    where
      go : (b : Bool) → nat_eq p n ≡ b
          → (p < n → open_below puts level (set marks p true) n
          ≡ open_below puts level marks n + (if nat_eq (put_at puts p).level level then 1 else 0))
          → open_below puts level (set marks p true) (suc n)
          ≡ open_below puts level marks (suc n) + (if nat_eq (put_at puts p).level level then 1 else 0)
      go true f rec =
          let at : p ≡ n = same_exact p n f in
          let here : is_marked marks n ≡ false = ap (is_marked marks) (sym at) ∙ e in
          let there : is_marked (set marks p true) n ≡ true = ap (is_marked (set marks p true)) (sym at) ∙ marked-same marks p within in
          let rest = open-before marks (set marks p true) n (λ k g. marked-other marks p k (omega arith)) in
          rw (rest, there, here, at) (omega arith)
      go false f rec =
          let ne : n ≢ p = (λ g. contrary _ (true-same p n (sym g)) f) in
          let less : p < n = omega arith in
          rw (marked-other marks p n ne, rec less) (omega arith)

  pub open-most : (marks : List Bool) (n : ℕ) → open_below puts level marks n ≤ n
  open-most marks zero = omega arith
  open-most marks (suc n) = go (is_marked marks n && nat_eq (put_at puts n).level level) refl (open-most marks n)
    where
      go : (b : Bool) → (is_marked marks n && nat_eq (put_at puts n).level level) ≡ b → open_below puts level marks n ≤ n
          → open_below puts level marks (suc n) ≤ suc n
      go true e rest = rw e (omega arith)
      go false e rest = rw e (omega arith)

  -- where none is left, each marked place is of another level
  pub open-none : (marks : List Bool) (n k : ℕ) → open_below puts level marks n ≡ 0 → k < n → is_marked marks k ≡ true
      → nat_eq (put_at puts k).level level ≡ false
  open-none marks zero k e h m = absurd (omega arith)
  open-none marks (suc n) k e h m =
      go (is_marked marks n && nat_eq (put_at puts n).level level) refl (open-none marks n k)
    where
      here : (b : Bool) → nat_eq (put_at puts n).level level ≡ b → (is_marked marks n && nat_eq (put_at puts n).level level) ≡ false
          → is_marked marks n ≡ true → nat_eq (put_at puts n).level level ≡ false
      here false g f o = g
      here true g f o = let z : (true && true) ≡ false = rw (o, g) at f in cc

      go : (b : Bool) → (is_marked marks n && nat_eq (put_at puts n).level level) ≡ b
          → (open_below puts level marks n ≡ 0 → k < n → is_marked marks k ≡ true → nat_eq (put_at puts k).level level ≡ false)
          → nat_eq (put_at puts k).level level ≡ false
      go true f rest = let z : open_below puts level marks n + 1 ≡ 0 = rw f at e in absurd (omega arith)
      go false f rest =
          let z : open_below puts level marks n + 0 ≡ 0 = rw f at e in
          elim (eq-or-lt_of_le (let le : suc k ≤ suc n = omega arith in le)) [
            | inl s ↦
                let at : k ≡ n = omega arith in
                subst (λ (j : ℕ). nat_eq (put_at puts j).level level ≡ false) (sym at)
                (here (nat_eq (put_at puts n).level level) refl f (ap (is_marked marks) (sym at) ∙ m))
            | inr s ↦ rest (omega arith) (omega arith) m
          ]

  -- where one is left, some place is marked
  pub open-some : (marks : List Bool) (n : ℕ) → 1 ≤ open_below puts level marks n
      → (k : ℕ) × (k < n) × (is_marked marks k ≡ true) × ((put_at puts k).level ≡ level)
  open-some marks zero h = absurd (omega arith)
  open-some marks (suc n) h = go (is_marked marks n) (nat_eq (put_at puts n).level level) refl refl (open-some marks n)
    where
      go : (a b : Bool) → is_marked marks n ≡ a → nat_eq (put_at puts n).level level ≡ b
          → (1 ≤ open_below puts level marks n → (k : ℕ) × (k < n) × (is_marked marks k ≡ true) × ((put_at puts k).level ≡ level))
          → (k : ℕ) × (k < suc n) × (is_marked marks k ≡ true) × ((put_at puts k).level ≡ level)
      go true true e f rest = (n, omega arith, e, same_exact _ _ f)
      go true false e f rest =
          let z : 1 ≤ open_below puts level marks n + 0 = rw (e, f) at h in
          let w = rest (omega arith) in (w.0, omega (arith, w.1), w.2, w.3)
      go false b e f rest =
          let z : 1 ≤ open_below puts level marks n + 0 = rw e at h in
          let w = rest (omega arith) in (w.0, omega (arith, w.1), w.2, w.3)

  pub open-more : (old new : List Bool) (n : ℕ) → ((k : ℕ) → is_marked old k ≡ true → is_marked new k ≡ true)
      → open_below puts level old n ≤ open_below puts level new n
  open-more old new zero keeps = omega arith
  open-more old new (suc n) keeps = go (is_marked old n) (is_marked new n) (nat_eq (put_at puts n).level level) refl refl refl (open-more old new n keeps)
    where
      go : (a b c : Bool) → is_marked old n ≡ a → is_marked new n ≡ b → nat_eq (put_at puts n).level level ≡ c
          → open_below puts level old n ≤ open_below puts level new n
          → open_below puts level old (suc n) ≤ open_below puts level new (suc n)
      go false true true e f g rest = rw (e, f, g) (omega arith)
      go false true false e f g rest = rw (e, f, g) (omega arith)
      go false false c e f g rest = rw (e, f) (omega arith)
      go true true c e f g rest = rw (e, f) (omega arith)
      go true false c e f g rest = contrary _ (keeps n e) f

  -- marks before a place change the count before it and the whole count alike
  pub open-grow : (old new : List Bool) (p m : ℕ) → ((k : ℕ) → p ≤ k → k < m + p → is_marked new k ≡ is_marked old k)
      → open_below puts level new (m + p) + open_below puts level old p
      ≡ open_below puts level old (m + p) + open_below puts level new p
  open-grow old new p zero same = let z : 0 + p ≡ p = omega arith in rw z (omega arith)
  open-grow old new p (suc m) same =
      let z : suc m + p ≡ suc (m + p) = omega arith in
      let here = same (m + p) (omega arith) (omega arith) in
      rw (z, here) (let rest = open-grow old new p m (λ k from h. same k from (omega arith)) in omega arith)
