-- The clauses that define a node, one after another.
use Rattle.std.proofs.Common.{◌≡◌, ℕ, ◌+◌, Some, List, [], ◌∷◌, ◌++◌, take, length, sym, ap, ◌∙◌, arith, suc, length-take}
use Rattle.std.specs.Prelude.{slice_get}
use Rattle.std.proofs.lemmas.List.{append_assoc}
use Rattle.std.proofs.lemmas.Option.{slice_get_within}
use Rattle.lits.specs.declared.literal.Lit.{Lit}
use Rattle.lits.specs.declared.step.Ref.{Ref}
use Rattle.lits.specs.declared.step.Named.{Named}
use Rattle.lits.proofs.Facts.{take_next}
use Rattle.lemma_book.specs.Cone.{named_from}

named_from-push : (name : ℕ → Ref) (cs : List (List Lit)) (c : List Lit) (j : ℕ)
    → named_from name j (cs ++ c ∷ []) ≡ named_from name j cs ++ record { clause = c; by = name (j + length cs) } ∷ []
named_from-push name [] c j = let e : j ≡ j + 0 = omega arith in ap (λ (k : ℕ). record { clause = c; by = name k } ∷ []) e
named_from-push name (d ∷ ds) c j =
    let e : (j + 1) + length ds ≡ j + suc (length ds) = omega arith in
    ap (λ (l : List Named). record { clause = d; by = name j } ∷ l)
    (named_from-push name ds c (j + 1) ∙ ap (λ (k : ℕ). named_from name (j + 1) ds ++ record { clause = c; by = name k } ∷ []) e)

-- the named clauses so far, with the next one
pub named-next : (name : ℕ → Ref) (cs : List (List Lit)) (k : ℕ) (c : List Lit) (before old new : List Named) → slice_get cs k ≡ Some c
    → old ≡ before ++ named_from name 0 (take k cs) → new ≡ old ++ record { clause = c; by = name k } ∷ []
    → new ≡ before ++ named_from name 0 (take (k + 1) cs)
named-next name cs k c before old new at so_far pushed =
    let below = slice_get_within cs k c at in
    let count : 0 + length (take k cs) ≡ k = omega (arith, length-take k cs) in
    pushed ∙ ap (λ (l : List Named). l ++ record { clause = c; by = name k } ∷ []) so_far
    ∙ append_assoc before (named_from name 0 (take k cs)) (record { clause = c; by = name k } ∷ [])
    ∙ ap (λ (l : List Named). before ++ l)
    (ap (λ (i : ℕ). named_from name 0 (take k cs) ++ record { clause = c; by = name i } ∷ []) (sym count)
    ∙ sym (named_from-push name (take k cs) c 0) ∙ ap (named_from name 0) (sym (take_next cs k c at)))
