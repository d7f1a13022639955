-- How the set that propagation starts from stands for the list that is given.
use Rattle.std.proofs.Common.{◌≡◌, ℕ, ◌+◌, ◌<◌, Bool, true, false, ◌||◌, List, [], ◌∷◌, ◌++◌, length, take, drop, get_or, refl, sym, ap, ◌∙◌, subst, inr}
use Rattle.std.specs.Prelude.{if◌then◌else◌}
use Rattle.std.proofs.lemmas.List.Folds.{list_any_at}
use Rattle.std.proofs.lemmas.List.{take-append-drop}
use Rattle.std.proofs.lemmas.Bool.{or_left}
use Rattle.lits.specs.Clause.{has}
use Rattle.lits.proofs.Facts.{IsLiteral, has-append, take_one}
use Rattle.unit_prop.specs.declared.propagation.Closure.{Closure}
use Rattle.unit_prop.specs.declared.propagation.Closure.TheVariants.{Clash, Free}
use Rattle.unit_prop.specs.Closure.{ClosureClashes, ClosesTo}
use Rattle.unit_prop.specs.Propagation.{IsConsistent}
use Rattle.unit_prop.proofs.ClosureLemmas.{consistent-push}

-- the set has what is given, and no literal beside its negation
pub record StandsFor {L : Type 0} (eq : L → L → Bool) (opposite : L → L) (given set : List L) : Type 0 where
  pub same : (q : L) → has eq set q ≡ has eq given q
  pub consistent : IsConsistent eq opposite set

or_twice : (a b : Bool) → (b ≡ true → a ≡ true) → (a || (b || false)) ≡ a
or_twice true b f = refl
or_twice false false f = refl
or_twice false true f = sym (f refl)

module _ {L : Type 0} {eq : L → L → Bool} {opposite : L → L} (laws : IsLiteral eq opposite) where
  pub given-next : ((x : L) → eq x (opposite x) ≡ false) → (lits : List L) (i : ℕ) (x : L) (set new : List L) → i < length lits
      → x ≡ get_or lits i x → StandsFor eq opposite (take i lits) set → has eq set (opposite x) ≡ false
      → new ≡ (if has eq set x then set else set ++ x ∷ []) → StandsFor eq opposite (take (i + 1) lits) new
  given-next differs lits i x set new below at s apart grows =
      rw (take_one lits i x below at) (go (has eq set x) refl)
    where
      go : (b : Bool) → has eq set x ≡ b → StandsFor eq opposite (take i lits ++ x ∷ []) new
      go true e =
          let same : new ≡ set = grows ∙ rw e refl in
          subst (λ (z : List L). StandsFor eq opposite (take i lits ++ x ∷ []) z) (sym same) (record {
            same = λ q. s.same q ∙ sym (has-append laws (take i lits) (x ∷ []) q
                ∙ or_twice _ (eq x q) (λ f. ap (has eq (take i lits)) (sym (laws.exact x q f)) ∙ (sym (s.same x) ∙ e)));
            consistent = s.consistent;
          })
      go false e =
          let same : new ≡ set ++ x ∷ [] = grows ∙ rw e refl in
          subst (λ (z : List L). StandsFor eq opposite (take i lits ++ x ∷ []) z) (sym same) (record {
            same = λ q. has-append laws set (x ∷ []) q ∙ (ap (λ (b : Bool). b || has eq (x ∷ []) q) (s.same q) ∙ sym (has-append laws (take i lits) (x ∷ []) q));
            consistent = consistent-push laws differs [] [] set x s.consistent (record { fresh = e; apart = apart });
          })

  -- what is given has a literal beside its negation
  pub given-clash : (clauses : List (List L)) (lits : List L) (i : ℕ) (x : L) (set : List L) → i < length lits
      → x ≡ get_or lits i x → StandsFor eq opposite (take i lits) set → has eq set (opposite x) ≡ true
      → ClosureClashes eq opposite clauses lits
  given-clash clauses lits i x set below at s e p closed = inr (x, closed.starts x first, closed.starts (opposite x) second)
    where
      first : has eq lits x ≡ true
      first = list_any_at (λ y. eq y x) lits i x below (ap (λ (y : L). eq y x) (sym at) ∙ laws.equivalence.refl x)

      second : has eq lits (opposite x) ≡ true
      second =
          subst (λ (l : List L). has eq l (opposite x) ≡ true) (take-append-drop i lits)
          (has-append laws (take i lits) (drop i lits) (opposite x) ∙ or_left _ _ (sym (s.same (opposite x)) ∙ e))

-- what a list and a set that stands for it come to
pub given-last : {L : Type 0} {eq : L → L → Bool} {opposite : L → L} (clauses : List (List L)) (given set : List L) (result : Closure L)
    → StandsFor eq opposite given set → ClosesTo eq opposite clauses set result → ClosesTo eq opposite clauses given result
given-last clauses given set Clash s h =
    λ p closed. h p (record { starts = λ l e. closed.starts l (sym (s.same l) ∙ e); units = closed.units })
given-last clauses given set (Free lits) s h = (
  record {
    closed = record { starts = λ l e. h.0.closed.starts l (s.same l ∙ e); units = h.0.closed.units };
    least = λ p closed. h.0.least p (record { starts = λ l e. closed.starts l (sym (s.same l) ∙ e); units = closed.units });
  },
  h.1,
)
