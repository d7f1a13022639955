-- Sets of literals that are closed under unit propagation by a clause: which literal is in them once the clause's others
-- are negated in them.
use Rattle.std.proofs.Common.{◌≡◌, Bool, true, false, ◌||◌, List, [], ◌∷◌, refl, sym, ◌∙◌}
use Rattle.std.proofs.lemmas.Bool.{or_left, or_right}
use Rattle.lits.specs.Clause.{has, firsts}
use Rattle.lits.specs.Same.{same_lit, opposite}
use Rattle.lits.specs.declared.literal.Lit.{Lit}
use Rattle.lits.proofs.Facts.{has-firsts, same-lit_self, lit_laws}
use Rattle.unit_prop.specs.Closure.{forces}
use Rattle.unit_prop.proofs.LiteralLemmas.{all-true, all-at}

-- the set is closed under unit propagation by the clause
abbrev pub Takes : (Lit → Bool) → List Lit → Type 0
Takes p c = (l : Lit) → has same_lit c l ≡ true → forces same_lit opposite p c l ≡ true → p l ≡ true

module _ (p : Lit → Bool) where
  -- also where repeated literals are written
  pub takes-firsts : (c : List Lit) → Takes p (firsts same_lit c) → Takes p c
  takes-firsts c takes l inside all =
      takes l (has-firsts lit_laws c l ∙ inside) (
      all-true lit_laws (λ m. same_lit m l || p (opposite m)) (firsts same_lit c)
      (λ m h. all-at lit_laws (λ k. same_lit k l || p (opposite k)) c m all (sym (has-firsts lit_laws c m) ∙ h))
      )

  -- a unit
  pub take-one : (x : Lit) → Takes p (x ∷ []) → p x ≡ true
  take-one x takes = takes x (rw (same-lit_self x) refl) (rw (same-lit_self x) refl)

  -- of two literals
  pub take-second : (x y : Lit) → Takes p (x ∷ y ∷ []) → p (opposite x) ≡ true → p y ≡ true
  take-second x y takes e =
      takes y (or_right (same_lit x y) _ (or_left _ false (same-lit_self y)))
      (rw (or_right (same_lit x y) (p (opposite x)) e, or_left (same_lit y y) (p (opposite y)) (same-lit_self y)) refl)

  pub take-first : (x y : Lit) → Takes p (x ∷ y ∷ []) → p (opposite y) ≡ true → p x ≡ true
  take-first x y takes e =
      takes x (or_left (same_lit x x) _ (same-lit_self x))
      (rw (or_left (same_lit x x) (p (opposite x)) (same-lit_self x), or_right (same_lit y x) (p (opposite y)) e) refl)

  -- of three
  pub take-head : (x y z : Lit) → Takes p (x ∷ y ∷ z ∷ []) → p (opposite y) ≡ true → p (opposite z) ≡ true → p x ≡ true
  take-head x y z takes e f =
      takes x (or_left (same_lit x x) _ (same-lit_self x))
      (rw (
        or_left (same_lit x x) (p (opposite x)) (same-lit_self x),
        or_right (same_lit y x) (p (opposite y)) e,
        or_right (same_lit z x) (p (opposite z)) f,
      ) refl)

  pub take-third : (x y z : Lit) → Takes p (x ∷ y ∷ z ∷ []) → p (opposite x) ≡ true → p (opposite y) ≡ true → p z ≡ true
  take-third x y z takes e f =
      takes z (or_right (same_lit x z) _ (or_right (same_lit y z) _ (or_left _ false (same-lit_self z))))
      (rw (
        or_right (same_lit x z) (p (opposite x)) e,
        or_right (same_lit y z) (p (opposite y)) f,
        or_left (same_lit z z) (p (opposite z)) (same-lit_self z),
      ) refl)
