-- First members of classes: what is in one class with a position is in one with the first member, and that is the least.
use Rattle.std.proofs.Common.{◌≡◌, ◌≢◌, ◌∙◌, ℕ, zero, suc, ◌+◌, ◌<◌, ◌≤◌, ◌&&◌, ◌⊎◌, nat_lt, Bool, true, false, not, refl, sym, ap, subst, arith, List, inl, inr}
use Rattle.std.specs.List.{list_all, range_with_len}
use Rattle.std.proofs.lemmas.Bool.{cases_lt, and_parts, not-false, not-true}
use Rattle.std.proofs.lemmas.Bool.Decides.{nat_tests, eqb_tells}
use Rattle.std.proofs.Math.Bool.{and-false}
use Rattle.word_sim.specs.Rows.{Signatures}
use Rattle.sig_classes.specs.Alike.{row_of}
use Rattle.sig_classes.specs.Chains.{are_one, is_first, with_member}
use Rattle.sig_classes.proofs.AlikeLemmas.{all-numbers, each-number, alike-join, alike-swap}
use Rattle.sig_classes.proofs.ChainLemmas.{one-parts, one-from}

-- a test of all numbers below n, or a number that fails it
some-below : (test : ℕ → Bool) (n : ℕ) → ((k : ℕ) → k < n → test k ≡ true) ⊎ ((k : ℕ) × (k < n) × (test k ≡ false))
some-below test zero = inl (λ k below. absurd (omega arith))
some-below test (suc n) = elim (some-below test n) [
  | inr p ↦ inr (p.0, omega (arith, p.1), p.2)
  | inl all ↦ go (test n) refl all
]
  where
    go : (b : Bool) → test n ≡ b → ((k : ℕ) → k < n → test k ≡ true)
        → ((k : ℕ) → k < suc n → test k ≡ true) ⊎ ((k : ℕ) × (k < suc n) × (test k ≡ false))
    go false e all = inr (n, omega arith, e)
    go true e all = inl (λ k below. elim (cases_lt k n) [
      | inl less ↦ all k less
      | inr more ↦ let same : n ≡ k = omega arith in subst (λ (m : ℕ). test m ≡ true) same e
    ])

both-true : (a b : Bool) → not (a && b) ≡ false → (a ≡ true) × (b ≡ true)
both-true true true e = (refl, refl)
both-true true false e = cc
both-true false b e = cc

-- the least number up to n that passes a test
pub least : (test : ℕ → Bool) (n : ℕ) → test n ≡ true → (k : ℕ) × (k ≤ n) × (test k ≡ true) × ((r : ℕ) → r < k → test r ≡ false)
least test n here = elim (some-below (λ k. not (test k)) n) [
  | inl none ↦ (n, omega arith, here, λ r below. not-true (test r) (none r below))
  | inr p ↦
      let less : p.0 < n = p.1 in
      let rest = least-below test n p.0 less (not-false (test p.0) p.2) in rest
]
  where
    least-below : (test : ℕ → Bool) (n k : ℕ) → k < n → test k ≡ true
        → (j : ℕ) × (j ≤ n) × (test j ≡ true) × ((r : ℕ) → r < j → test r ≡ false)
    least-below test zero k less e = absurd (omega arith)
    least-below test (suc m) k less e = elim (some-below (λ r. not (test r)) k) [
      | inl none ↦ (k, omega arith, e, λ r below. not-true (test r) (none r below))
      | inr p ↦
          let rest = least-below test m p.0 (omega (arith, p.1)) (not-false (test p.0) p.2) in
          (rest.0, omega (arith, rest.1), rest.2, rest.3)
    ]

module _ (classes : List ℕ) (sigs : Signatures) (root : ℕ → Bool) where
  join : (p q r : ℕ) → are_one classes sigs p q ≡ true → are_one classes sigs q r ≡ true → are_one classes sigs p r ≡ true
  join p q r one two =
      let first = one-parts classes sigs p q one in
      let second = one-parts classes sigs q r two in
      one-from classes sigs p r (first.0 ∙ second.0) (alike-join sigs.patterns (row_of sigs p) (row_of sigs q) (row_of sigs r) first.1 second.1)

  swap : (p q : ℕ) → are_one classes sigs p q ≡ true → are_one classes sigs q p ≡ true
  swap p q one =
      let parts = one-parts classes sigs p q one in
      one-from classes sigs q p (sym parts.0) (alike-swap sigs.patterns (row_of sigs p) (row_of sigs q) parts.1)

  -- no earlier root is in one class with it
  abbrev pub IsLone : ℕ → Type 0
  IsLone q = (r : ℕ) → r < q → root r ≡ true → are_one classes sigs r q ≡ false

  abbrev lone : ℕ → Bool
  lone q = list_all (λ r. not (root r && are_one classes sigs r q)) (range_with_len 0 q)

  lone-is : (q : ℕ) → lone q ≡ true → IsLone q
  lone-is q all r below is_root = bits (root r) (are_one classes sigs r q) is_root (all-numbers (λ r. not (root r && are_one classes sigs r q)) q r all below)
    where
      bits : (a b : Bool) → a ≡ true → not (a && b) ≡ true → b ≡ false
      bits true true e f = cc
      bits true false e f = refl
      bits false b e f = cc

  is-lone : (q : ℕ) → IsLone q → lone q ≡ true
  is-lone q none = each-number (λ r. not (root r && are_one classes sigs r q)) q (λ r below. bits (root r) (are_one classes sigs r q) (none r below))
    where
      bits : (a b : Bool) → (a ≡ true → b ≡ false) → not (a && b) ≡ true
      bits true true e = let f : true ≡ false = e refl in cc
      bits true false e = refl
      bits false b e = refl

  pub first-parts : (n q : ℕ) → is_first classes sigs root n q ≡ true → (q < n) × (root q ≡ true) × IsLone q
  first-parts n q first =
      let parts = and_parts (nat_lt q n) (root q && lone q) first in
      let rest = and_parts (root q) (lone q) parts.1 in
      (grind (arith, nat_tests, parts.0), rest.0, lone-is q rest.1)

  pub first-from : (n q : ℕ) → q < n → root q ≡ true → IsLone q → is_first classes sigs root n q ≡ true
  first-from n q below is_root none =
      let l : nat_lt q n ≡ true = grind (arith, nat_tests, below) in rw (l, is_root, is-lone q none) refl

  -- a first member in p's class is the least root in it
  pub first-least : (n q p : ℕ) → is_first classes sigs root n q ≡ true → are_one classes sigs q p ≡ true → (r : ℕ) → r < q → root r ≡ true
      → are_one classes sigs r p ≡ false
  first-least n q p first here r below is_root = go (are_one classes sigs r p) refl
    where
      go : (b : Bool) → are_one classes sigs r p ≡ b → b ≡ false
      go false e = refl
      go true e =
          let one : are_one classes sigs r q ≡ true = join r p q e (swap q p here) in
          let two : are_one classes sigs r q ≡ false = (first-parts n q first).2 r below is_root in
          let f : true ≡ false = sym one ∙ two in cc

  -- where no first member is in p's class, no root is
  pub none-alike : (n p : ℕ) → ((q : ℕ) → is_first classes sigs root n q ≡ true → are_one classes sigs q p ≡ false) → (r : ℕ) → r < n → root r ≡ true
      → are_one classes sigs r p ≡ false
  none-alike n p none r below is_root = up-to (suc r) r (omega arith) below is_root
    where
      up-to : (k r : ℕ) → r < k → r < n → root r ≡ true → are_one classes sigs r p ≡ false
      up-to zero r less below is_root = absurd (omega arith)
      up-to (suc k) r less below is_root = elim (some-below (λ s. not (root s && are_one classes sigs s r)) r) [
        | inl all ↦ none r (first-from n r below is_root (lone-is r (each-number (λ s. not (root s && are_one classes sigs s r)) r all)))
        | inr f ↦
            let parts = both-true (root f.0) (are_one classes sigs f.0 r) f.2 in
            let earlier : are_one classes sigs f.0 p ≡ false = up-to k f.0 (omega (arith, f.1)) (omega (arith, f.1)) parts.0 in
            go (are_one classes sigs r p) refl f.0 parts.1 earlier
      ]
        where
          go : (b : Bool) → are_one classes sigs r p ≡ b → (s : ℕ) → are_one classes sigs s r ≡ true → are_one classes sigs s p ≡ false → b ≡ false
          go false e s one two = refl
          go true e s one two = let f : true ≡ false = sym (join s r p one e) ∙ two in cc

  lt-other : (q n : ℕ) → q ≢ n → nat_lt q n ≡ nat_lt q (n + 1)
  lt-other q n other = grind (arith, nat_tests)

  -- a lone root is one first member more
  pub first-grows : (n : ℕ) → root n ≡ true → IsLone n → (q : ℕ) → with_member n (is_first classes sigs root n) q ≡ is_first classes sigs root (n + 1) q
  first-grows n is_root none q = elim (eqb_tells q n) [
    | inl p ↦
        rw p.0 (sym (first-from (n + 1) q (omega (arith, p.1)) (ap root p.1 ∙ is_root)
        (subst IsLone (sym p.1) none)))
    | inr p ↦ rw p.0 (ap (λ (b : Bool). b && (root q && lone q)) (lt-other q n p.1))
  ]

  -- any other position is none
  pub first-stays : (n : ℕ) → (root n && lone n) ≡ false → (q : ℕ) → is_first classes sigs root n q ≡ is_first classes sigs root (n + 1) q
  first-stays n other q = elim (eqb_tells q n) [
    | inl p ↦
        let none : (root q && lone q) ≡ false = ap (λ (k : ℕ). root k && lone k) p.1 ∙ other in
        rw none (bits (nat_lt q n) (nat_lt q (n + 1)))
    | inr p ↦ ap (λ (b : Bool). b && (root q && lone q)) (lt-other q n p.1)
  ]
    where
      bits : (a b : Bool) → (a && false) ≡ (b && false)
      bits true true = refl
      bits true false = refl
      bits false true = refl
      bits false false = refl

  pub not-first-merged : (n : ℕ) → root n ≡ false → (root n && lone n) ≡ false
  not-first-merged n e = rw e refl

  pub not-first-found : (n q : ℕ) → is_first classes sigs root n q ≡ true → are_one classes sigs q n ≡ true → (root n && lone n) ≡ false
  not-first-found n q first here = go (lone n) refl
    where
      go : (b : Bool) → lone n ≡ b → (root n && b) ≡ false
      go true e =
          let parts = first-parts n q first in
          let f : true ≡ false = sym here ∙ lone-is n e q parts.0 parts.1 in cc
      go false e = and-false (root n)
