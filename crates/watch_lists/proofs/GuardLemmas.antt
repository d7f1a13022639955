-- What guards give: a guarded clause forces nothing, and guards stay while literals are put and watches move.
use Rattle.std.proofs.Common.{◌≡◌, Bool, true, false, ◌||◌, List, sym, ap, ◌∙◌, subst, ◌⊎◌, inl, inr}
use Rattle.std.specs.List.{list_any}
use Rattle.std.proofs.lemmas.Bool.{or_cases, or_left, or_right, cases_Bool}
use Rattle.lits.specs.Clause.{has}
use Rattle.lits.proofs.Facts.{IsLiteral, list_any-more}
use Rattle.unit_prop.specs.Closure.{forces, is_negated}
use Rattle.unit_prop.proofs.Facts.{contrary, witness, all-at}
use Rattle.watch_lists.specs.Guard.{IsGuarded}

module _ {L : Type 0} {eq : L → L → Bool} {opposite : L → L} (laws : IsLiteral eq opposite) where
  -- a clause with a literal of the set isn't negated, and forces that literal alone
  pub met-quiet : (set : L → Bool) (clause : List L) → ((l : L) → set l ≡ true → set (opposite l) ≡ false)
      → list_any set clause ≡ true → is_negated opposite set clause ≡ false
  met-quiet set clause apart met =
      let w = witness laws set clause met in
      elim (cases_Bool (is_negated opposite set clause)) [
        | inl h ↦ contrary _ (all-at laws _ clause w.0 h w.1) (apart w.0 w.2)
        | inr h ↦ h
      ]

  pub met-settled : (set : L → Bool) (clause : List L) → ((l : L) → set l ≡ true → set (opposite l) ≡ false)
      → list_any set clause ≡ true → (l : L) → has eq clause l ≡ true → forces eq opposite set clause l ≡ true → set l ≡ true
  met-settled set clause apart met l inside force =
      let w = witness laws set clause met in
      elim (or_cases _ _ (all-at laws _ clause w.0 force w.1)) [
        | inl e ↦ sym (ap set (laws.exact w.0 l e)) ∙ w.2
        | inr h ↦ contrary _ h (apart w.0 w.2)
      ]

  pub guarded-quiet : (set : L → Bool) (clause : List L) (a b : L) → ((l : L) → set l ≡ true → set (opposite l) ≡ false)
      → IsGuarded eq opposite set set clause a b → is_negated opposite set clause ≡ false
  guarded-quiet set clause a b apart g =
      elim (cases_Bool (is_negated opposite set clause)) [
        | inl h ↦ met-quiet set clause apart (g.first_kept (all-at laws _ clause a h g.first_in))
        | inr h ↦ h
      ]

  pub guarded-settled : (set : L → Bool) (clause : List L) (a b : L) → ((l : L) → set l ≡ true → set (opposite l) ≡ false)
      → IsGuarded eq opposite set set clause a b
      → (l : L) → has eq clause l ≡ true → forces eq opposite set clause l ≡ true → set l ≡ true
  guarded-settled set clause a b apart g l inside force =
      elim (or_cases _ _ (all-at laws _ clause a force g.first_in)) [
        | inr h ↦ met-settled set clause apart (g.first_kept h) l inside force
        | inl e ↦ elim (or_cases _ _ (all-at laws _ clause b force g.second_in)) [
          | inr h ↦ met-settled set clause apart (g.second_kept h) l inside force
          | inl f ↦
              let same : a ≡ b = laws.exact a l e ∙ sym (laws.exact b l f) in
              met-settled set clause apart (g.alone (subst (λ (z : L). eq a z ≡ true) same (laws.equivalence.refl a))) l inside force
        ]
      ]

module _ {L : Type 0} {eq : L → L → Bool} {opposite : L → L} where
  pub guarded-more : (past now later : L → Bool) (clause : List L) (a b : L) → ((l : L) → now l ≡ true → later l ≡ true)
      → IsGuarded eq opposite past now clause a b → IsGuarded eq opposite past later clause a b
  guarded-more past now later clause a b more g = record {
    first_in = g.first_in;
    second_in = g.second_in;
    first_kept = λ h. list_any-more now later clause more (g.first_kept h);
    second_kept = λ h. list_any-more now later clause more (g.second_kept h);
    alone = λ h. list_any-more now later clause more (g.alone h);
  }

  -- one more literal, w's negation, is past: where w is a watch, the clause is met
  pub guarded-turned : (past next now : L → Bool) (clause : List L) (a b w : L)
      → ((l : L) → next (opposite l) ≡ true → (past (opposite l) ≡ true) ⊎ (eq l w ≡ true))
      → ((eq a w || eq b w) ≡ true → list_any now clause ≡ true)
      → IsGuarded eq opposite past now clause a b → IsGuarded eq opposite next now clause a b
  guarded-turned past next now clause a b w split met g = record {
    first_in = g.first_in;
    second_in = g.second_in;
    first_kept = λ h. elim (split a h) [ inl p ↦ g.first_kept p | inr e ↦ met (or_left _ _ e) ];
    second_kept = λ h. elim (split b h) [ inl p ↦ g.second_kept p | inr e ↦ met (or_right (eq a w) _ e) ];
    alone = g.alone;
  }

  -- the other watch moves to a literal that isn't negated
  pub guarded-moved : (past now : L → Bool) (clause : List L) (a b c : L)
      → has eq clause c ≡ true → past (opposite c) ≡ false → eq a c ≡ false
      → IsGuarded eq opposite past now clause a b → IsGuarded eq opposite past now clause a c
  guarded-moved past now clause a b c inside free apart g = record {
    first_in = g.first_in;
    second_in = inside;
    first_kept = g.first_kept;
    second_kept = λ h. contrary _ h free;
    alone = λ h. contrary _ h apart;
  }

  pub guarded-swap : (past now : L → Bool) (clause : List L) (a b : L) → ((x y : L) → eq x y ≡ eq y x)
      → IsGuarded eq opposite past now clause a b → IsGuarded eq opposite past now clause b a
  guarded-swap past now clause a b symm g = record {
    first_in = g.second_in;
    second_in = g.first_in;
    first_kept = g.second_kept;
    second_kept = g.first_kept;
    alone = λ h. g.alone (symm a b ∙ h);
  }
