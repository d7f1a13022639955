-- What a clause does under a set, and what that makes of the state of a step.
use Rattle.std.proofs.Common.{◌≡◌, Bool, true, false, not, ◌||◌, List, [], ◌∷◌, ◌++◌, Some, None, Ok, refl, sym, ap, ◌∙◌, subst, ◌⊎◌, inl, inr}
use Rattle.std.specs.Prelude.{filter}
use Rattle.std.specs.List.{find}
use Rattle.std.proofs.lemmas.Bool.{or_cases, and_parts, and_from, not-false, not-true}
use Rattle.lits.specs.Clause.{has, firsts}
use Rattle.lits.proofs.Facts.{IsLiteral}
use Rattle.unit_prop.specs.Closure.{forces, is_negated}
use Rattle.unit_prop.specs.Propagation.{IsConsistent}
use Rattle.unit_prop.specs.Step.{open_in, is_satisfied, after_hint}
use Rattle.unit_prop.proofs.Facts.{contrary, witness, has-filter, all-true, all-at}
use Rattle.solver_plain.specs.Effect.{IsUnit, IsQuiet}
use Rattle.solver_plain.proofs.ListLemmas.{list_all-not, find-some, find-none, firsts-one}

module _ {L : Type 0} {eq : L → L → Bool} {opposite : L → L} (laws : IsLiteral eq opposite) where
  pub negated-of_none : (set clause : List L) → find (λ l. not (has eq set (opposite l))) clause ≡ None
      → is_negated opposite (has eq set) clause ≡ true
  negated-of_none set clause e =
      all-true laws (λ m. has eq set (opposite m)) clause
      (λ l h. not-false _ (find-none laws (λ m. not (has eq set (opposite m))) clause l e h))

  pub unit-of_first : (set clause : List L) (l : L) → find (λ m. not (has eq set (opposite m))) clause ≡ Some l
      → has eq set l ≡ false → forces eq opposite (has eq set) clause l ≡ true → IsUnit eq opposite set clause l
  unit-of_first set clause l e missing forced =
      let found = find-some laws (λ m. not (has eq set (opposite m))) clause l e in
      record { free = record { fresh = missing; apart = not-true _ found.1 }; forced = and_from _ _ found.0 forced }

  quiet-of_first : (set clause : List L) (l : L) → find (λ m. not (has eq set (opposite m))) clause ≡ Some l
      → (forces eq opposite (has eq set) clause l ≡ true → has eq set l ≡ true) → IsQuiet eq opposite set clause
  quiet-of_first set clause l e settled =
      record {
        not_negated = list_all-not laws (λ m. has eq set (opposite m)) clause l found.0 (not-true _ found.1);
        settled = λ k h f. same k f (or_cases _ _ (all-at laws (λ m. eq m k || has eq set (opposite m)) clause l f found.0));
      }
    where
      found : (has eq clause l ≡ true) × (not (has eq set (opposite l)) ≡ true)
      found = find-some laws (λ m. not (has eq set (opposite m))) clause l e

      same : (k : L) → forces eq opposite (has eq set) clause k ≡ true → (eq l k ≡ true) ⊎ (has eq set (opposite l) ≡ true)
          → has eq set k ≡ true
      same k f (inl g) =
          let at = laws.exact l k g in
          ap (has eq set) (sym at) ∙ settled (subst (λ (z : L). forces eq opposite (has eq set) clause z ≡ true) (sym at) f)
      same k f (inr g) = contrary _ g (not-true _ found.1)

  pub quiet-settled : (set clause : List L) (l : L) → find (λ m. not (has eq set (opposite m))) clause ≡ Some l
      → has eq set l ≡ true → IsQuiet eq opposite set clause
  quiet-settled set clause l e there = quiet-of_first set clause l e (λ _. there)

  pub quiet-unforced : (set clause : List L) (l : L) → find (λ m. not (has eq set (opposite m))) clause ≡ Some l
      → forces eq opposite (has eq set) clause l ≡ false → IsQuiet eq opposite set clause
  quiet-unforced set clause l e unforced = quiet-of_first set clause l e (λ f. contrary _ f unforced)

  not_satisfied-negated : (set clause : List L) → IsConsistent eq opposite set → is_negated opposite (has eq set) clause ≡ true
      → is_satisfied eq set clause ≡ false
  not_satisfied-negated set clause is negated = go (is_satisfied eq set clause) refl
    where
      go : (b : Bool) → is_satisfied eq set clause ≡ b → is_satisfied eq set clause ≡ false
      go false e = e
      go true e =
          let w = witness laws (has eq set) clause e in
          contrary _ (all-at laws (λ m. has eq set (opposite m)) clause w.0 negated w.1) (is.apart w.0 w.2)

  not_satisfied-unit : (set clause : List L) (l : L) → IsConsistent eq opposite set → IsUnit eq opposite set clause l
      → is_satisfied eq set clause ≡ false
  not_satisfied-unit set clause l is unit = go (is_satisfied eq set clause) refl
    where
      forced : forces eq opposite (has eq set) clause l ≡ true
      forced = (and_parts (has eq clause l) (forces eq opposite (has eq set) clause l) unit.forced).1

      which : (m : L) → has eq set m ≡ true → (eq m l ≡ true) ⊎ (has eq set (opposite m) ≡ true) → is_satisfied eq set clause ≡ false
      which m h (inl f) = contrary _ h (ap (has eq set) (laws.exact m l f) ∙ unit.free.fresh)
      which m h (inr f) = contrary _ f (is.apart m h)

      go : (b : Bool) → is_satisfied eq set clause ≡ b → is_satisfied eq set clause ≡ false
      go false e = e
      go true e =
          let w = witness laws (has eq set) clause e in
          which w.0 w.2 (or_cases _ _ (all-at laws (λ m. eq m l || has eq set (opposite m)) clause w.0 forced w.1))

  -- a clause that is wholly negated ends a step
  pub after-negated : (set clause : List L) → IsConsistent eq opposite set → is_negated opposite (has eq set) clause ≡ true
      → after_hint eq opposite (record { set = set; clashed = false }) clause ≡ Ok (record { set = set; clashed = true })
  after-negated set clause is negated = rw (not_satisfied-negated set clause is negated, nothing_open) refl
    where
      empty : (xs : List L) → is_negated opposite (has eq set) xs ≡ true → filter (λ l. not (has eq set (opposite l))) xs ≡ []
      empty [] e = refl
      empty (x ∷ xs) e =
          let parts = and_parts (has eq set (opposite x)) (is_negated opposite (has eq set) xs) e in
          let here : has eq set (opposite x) ≡ true = parts.0 in
          rw here (empty xs parts.1)

      nothing_open : open_in eq opposite set clause ≡ []
      nothing_open = ap (firsts eq) (empty clause negated)

  -- a clause with one free literal adds it
  pub after-unit : (set clause : List L) (l : L) → IsConsistent eq opposite set → IsUnit eq opposite set clause l
      → after_hint eq opposite (record { set = set; clashed = false }) clause ≡ Ok (record { set = set ++ l ∷ []; clashed = false })
  after-unit set clause l is unit = rw (not_satisfied-unit set clause l is unit, one_open) refl
    where
      parts : (has eq clause l ≡ true) × (forces eq opposite (has eq set) clause l ≡ true)
      parts = and_parts (has eq clause l) (forces eq opposite (has eq set) clause l) unit.forced

      inside : has eq (filter (λ m. not (has eq set (opposite m))) clause) l ≡ true
      inside = has-filter laws (λ m. not (has eq set (opposite m))) clause l ∙ rw (parts.0, unit.free.apart) refl

      same : (m : L) → has eq (filter (λ k. not (has eq set (opposite k))) clause) m ≡ true → eq m l ≡ true
      same m h = go (and_parts _ _ (sym (has-filter laws (λ k. not (has eq set (opposite k))) clause m) ∙ h))
        where
          go : (has eq clause m ≡ true) × (not (has eq set (opposite m)) ≡ true) → eq m l ≡ true
          go in_both =
              elim (or_cases _ _ (all-at laws (λ k. eq k l || has eq set (opposite k)) clause m parts.1 in_both.0)) [
                | inl e ↦ e
                | inr e ↦ contrary _ e (not-true _ in_both.1)
              ]

      one_open : open_in eq opposite set clause ≡ l ∷ []
      one_open =
          firsts-one laws l (filter (λ m. not (has eq set (opposite m))) clause)
          (all-true laws (λ m. eq m l) (filter (λ m. not (has eq set (opposite m))) clause) same) inside
