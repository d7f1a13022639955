-- What a clause asks for, by what is open in it.
use Rattle.std.proofs.Common.{◌≡◌, Bool, true, false, not, ◌||◌, List, [], ◌∷◌, refl, sym, ap, ◌∙◌, subst, inl, inr}
use Rattle.std.specs.Prelude.{filter}
use Rattle.std.proofs.lemmas.Bool.{and_from, and_parts, or_cases, or_left, or_right, not-true}
use Rattle.lits.specs.Clause.{has, firsts}
use Rattle.lits.proofs.Facts.{IsLiteral}
use Rattle.unit_prop.specs.Closure.{forces, is_negated}
use Rattle.unit_prop.specs.Step.{open_in}
use Rattle.unit_prop.specs.Propagation.{IsFree, IsSettled, is_forced_by}
use Rattle.unit_prop.proofs.LiteralLemmas.{contrary, alone, has-head, has-filter, all-true, all-at}
use Rattle.unit_prop.proofs.StepLemmas.{has-open_in}

module _ {L : Type 0} {eq : L → L → Bool} {opposite : L → L} (laws : IsLiteral eq opposite) (set clause : List L) where
  -- a literal whose negation is false is open
  not_negated : (m : L) → has eq (open_in eq opposite set clause) m ≡ true → has eq set (opposite m) ≡ false
  not_negated m h = not-true (has eq set (opposite m)) (and_parts _ _ (sym (has-open_in laws set clause m) ∙ h)).1

  inside : (m : L) → has eq (open_in eq opposite set clause) m ≡ true → has eq clause m ≡ true
  inside m h = (and_parts _ _ (sym (has-open_in laws set clause m) ∙ h)).0

  -- a literal is open or negated
  open_or_negated : (m : L) → has eq clause m ≡ true → has eq (open_in eq opposite set clause) m ≡ false → has eq set (opposite m) ≡ true
  open_or_negated m h e = go (has eq set (opposite m)) refl
    where
      go : (b : Bool) → has eq set (opposite m) ≡ b → has eq set (opposite m) ≡ true
      go true f = f
      go false f = contrary _ (has-open_in laws set clause m ∙ rw (h, f) refl) e

  -- what forces a literal has no other open one
  forced-is : (l m : L) → has eq (open_in eq opposite set clause) m ≡ true → forces eq opposite (has eq set) clause l ≡ true → eq m l ≡ true
  forced-is l m h f =
      elim (or_cases (eq m l) (has eq set (opposite m)) (all-at laws (λ k. eq k l || has eq set (opposite k)) clause m f (inside m h))) [
        | inl e ↦ e
        | inr e ↦ contrary _ e (not_negated m h)
      ]

  not_all_negated : (m : L) → has eq (open_in eq opposite set clause) m ≡ true → is_negated opposite (has eq set) clause ≡ false
  not_all_negated m h = go (is_negated opposite (has eq set) clause) refl
    where
      go : (b : Bool) → is_negated opposite (has eq set) clause ≡ b → is_negated opposite (has eq set) clause ≡ false
      go false e = e
      go true e = contrary _ (all-at laws (λ k. has eq set (opposite k)) clause m e (inside m h)) (not_negated m h)

  pub ask-none : open_in eq opposite set clause ≡ [] → is_negated opposite (has eq set) clause ≡ true
  ask-none e = all-true laws (λ m. has eq set (opposite m)) clause (λ m h. open_or_negated m h (ap (λ (o : List L). has eq o m) e))

  at_one : (l : L) → open_in eq opposite set clause ≡ l ∷ [] → has eq (open_in eq opposite set clause) l ≡ true
  at_one l e = ap (λ (o : List L). has eq o l) e ∙ has-head laws l []

  pub ask-unit : (l : L) → open_in eq opposite set clause ≡ l ∷ [] → has eq set l ≡ false
      → IsFree eq opposite set l × (is_forced_by eq opposite set l clause ≡ true)
  ask-unit l e fresh = (record { fresh = fresh; apart = not_negated l (at_one l e) }, and_from _ _ (inside l (at_one l e)) forced)
    where
      forced : forces eq opposite (has eq set) clause l ≡ true
      forced = all-true laws (λ m. eq m l || has eq set (opposite m)) clause (λ m h. go m h (has eq (open_in eq opposite set clause) m) refl)
        where
          go : (m : L) → has eq clause m ≡ true → (b : Bool) → has eq (open_in eq opposite set clause) m ≡ b
              → (eq m l || has eq set (opposite m)) ≡ true
          go m h true f =
              let same : eq l m ≡ true = alone _ (sym (ap (λ (o : List L). has eq o m) e) ∙ f) in
              or_left _ _ (laws.equivalence.symm m l ∙ same)
          go m h false f = or_right (eq m l) _ (open_or_negated m h f)

  pub ask-satisfied : (l : L) → open_in eq opposite set clause ≡ l ∷ [] → has eq set l ≡ true
      → (is_negated opposite (has eq set) clause ≡ false) × IsSettled eq opposite set clause
  ask-satisfied l e there =
      (not_all_negated l (at_one l e), λ k h f. subst (λ (z : L). has eq set z ≡ true) (laws.exact l k (forced-is k l (at_one l e) f)) there)

  pub ask-more : ((l m : L) × (ls : List L) × (open_in eq opposite set clause ≡ l ∷ m ∷ ls))
      → (is_negated opposite (has eq set) clause ≡ false) × IsSettled eq opposite set clause
  ask-more (l, m, ls, e) = (not_all_negated l first, λ k h f. settled k f)
    where
      first : has eq (open_in eq opposite set clause) l ≡ true
      first = ap (λ (o : List L). has eq o l) e ∙ has-head laws l (m ∷ ls)

      second : has eq (open_in eq opposite set clause) m ≡ true
      second = ap (λ (o : List L). has eq o m) e ∙ or_right (eq l m) _ (has-head laws m ls)

      -- the two differ, since each literal is there once
      differ : (xs : List L) → firsts eq xs ≡ l ∷ m ∷ ls → eq l m ≡ false
      differ [] f = let g : [] ≡ l ∷ m ∷ ls = f in cc
      differ (x ∷ xs) f =
          let g : x ≡ l = cc in
          let h : filter (λ y. not (eq x y)) (firsts eq xs) ≡ m ∷ ls = cc in
          let k : has eq (filter (λ y. not (eq x y)) (firsts eq xs)) m ≡ true = ap (λ (o : List L). has eq o m) h ∙ has-head laws m ls in
          let n : not (eq x m) ≡ true = (and_parts _ _ (sym (has-filter laws (λ y. not (eq x y)) (firsts eq xs) m) ∙ k)).1 in
          subst (λ (z : L). eq z m ≡ false) g (not-true (eq x m) n)

      settled : (k : L) → forces eq opposite (has eq set) clause k ≡ true → has eq set k ≡ true
      settled k f =
          let same : l ≡ m = laws.exact l k (forced-is k l first f) ∙ sym (laws.exact m k (forced-is k m second f)) in
          contrary _ (subst (λ (z : L). eq l z ≡ true) same (laws.equivalence.refl l)) (differ _ e)
