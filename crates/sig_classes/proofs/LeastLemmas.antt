-- The least positions of classes, one more.
use Rattle.std.proofs.Common.{◌≡◌, ◌∙◌, ℕ, ◌+◌, ◌<◌, List, [], ◌∷◌, ◌++◌, length, true, false, sym, ap, subst, arith, inl, inr, length-append}
use Rattle.std.proofs.lemmas.Bool.{cases_lt}
use Rattle.std.proofs.lemmas.List.{get_or_append_left, get_or-append-add}
use Rattle.word_sim.specs.Rows.{Signatures}
use Rattle.sig_classes.specs.Chains.{class_of}
use Rattle.sig_classes.specs.Kept.{IsLeastOne, AreLeast, counts}

module _ (classes : List ℕ) (sigs : Signatures) (n : ℕ) (now new : List ℕ) (q : ℕ) (old : AreLeast classes sigs n now)
    (put : new ≡ now ++ q ∷ []) where
  before : (p : ℕ) → p < n → class_of new p ≡ class_of now p
  before p less = ap (λ (xs : List ℕ). class_of xs p) put ∙ get_or_append_left now (q ∷ []) 0 p (omega (arith, old.size, less))

  last : (p : ℕ) → p ≡ n → class_of new p ≡ q
  last p same =
      let place : p ≡ length now + 0 = omega (arith, same, old.size) in
      ap (λ (xs : List ℕ). class_of xs p) put ∙ ap (class_of (now ++ q ∷ [])) place ∙ get_or-append-add now (q ∷ []) 0 0

  pub least-next : (counts classes n ≡ true → IsLeastOne classes sigs q n) → (counts classes n ≡ false → q ≡ 4294967295)
      → AreLeast classes sigs (n + 1) new
  least-next one out = record {
    size = ap (λ (xs : List ℕ). length xs) put ∙ length-append now (q ∷ []) ∙ ap (λ (k : ℕ). k + 1) old.size;
    each = λ p below counting. elim (cases_lt p n) [
      | inl less ↦ subst (λ (k : ℕ). IsLeastOne classes sigs k p) (sym (before p less)) (old.each p less counting)
      | inr more ↦
          let same : p ≡ n = omega (arith, below, more) in
          subst (λ (k : ℕ). IsLeastOne classes sigs k p) (sym (last p same))
          (subst (IsLeastOne classes sigs q) (sym same) (one (ap (counts classes) (sym same) ∙ counting)))
    ];
    out = λ p below none. elim (cases_lt p n) [
      | inl less ↦ before p less ∙ old.out p less none
      | inr more ↦
          let same : p ≡ n = omega (arith, below, more) in
          last p same ∙ out (ap (counts classes) (sym same) ∙ none)
    ];
  }
