-- What a step assumes at its start: the negations of its clause's literals.
use Rattle.std.proofs.Common.{◌≡◌, ℕ, ◌+◌, ◌<◌, Bool, true, false, List, [], ◌∷◌, ◌++◌, length, take, drop, get_or, refl, sym, ap, ◌∙◌, subst}
use Rattle.std.specs.Prelude.{map}
use Rattle.std.proofs.lemmas.List.{take-append-drop, map-append}
use Rattle.lits.specs.Clause.{has, has_pair, firsts}
use Rattle.lits.proofs.Facts.{IsLiteral, has-firsts, firsts-push, has_pair-push, has_pair-append, take_one}
use Rattle.unit_prop.specs.declared.why.Why.{Why}
use Rattle.unit_prop.specs.declared.why.StepErr.{StepErr}
use Rattle.unit_prop.specs.declared.why.StepErr.TheVariants.{Bad, NoMemory}
use Rattle.unit_prop.specs.Step.{IfBad}
use Rattle.unit_prop.specs.StepCheck.{Assumes}
use Rattle.unit_prop.specs.Propagation.{IsConsistent}
use Rattle.unit_prop.proofs.LiteralLemmas.{has-map-opposite}
use Rattle.unit_prop.proofs.ClosureLemmas.{consistent-push}

-- the set has the negations of the literals seen so far, among which no two are complementary
pub record IsAssumed {L : Type 0} (eq : L → L → Bool) (opposite : L → L) (seen set : List L) : Type 0 where
  pub negations : set ≡ map opposite (firsts eq seen)
  pub apart : has_pair eq opposite seen ≡ false

module _ {L : Type 0} {eq : L → L → Bool} {opposite : L → L} (laws : IsLiteral eq opposite) where
  has-set : (seen set : List L) (q : L) → IsAssumed eq opposite seen set → has eq set q ≡ has eq seen (opposite q)
  has-set seen set q a =
      ap (λ (l : List L). has eq l q) a.negations ∙ (has-map-opposite laws (firsts eq seen) q ∙ has-firsts laws seen (opposite q))

  assumed-more : (seen set : List L) (x : L) (new : List L) → IsAssumed eq opposite seen set → Assumes eq opposite set x new
      → IsAssumed eq opposite (seen ++ x ∷ []) new
  assumed-more seen set x new a adds = go (has eq seen x) refl
    where
      apart : has_pair eq opposite (seen ++ x ∷ []) ≡ false
      apart = has_pair-push laws seen x ∙ rw (a.apart, sym (has-set seen set x a), adds.apart) refl

      there : has eq set (opposite x) ≡ has eq seen x
      there = has-set seen set (opposite x) a ∙ ap (has eq seen) (laws.twice x)

      go : (b : Bool) → has eq seen x ≡ b → IsAssumed eq opposite (seen ++ x ∷ []) new
      go true e = record {
        negations = adds.kept ∙ rw (there, e) (a.negations ∙ ap (map opposite) (sym (firsts-push laws seen x ∙ rw e refl)));
        apart = apart;
      }
      go false e = record {
        negations = adds.kept ∙ rw (there, e) (ap (λ (l : List L). l ++ opposite x ∷ []) a.negations
            ∙ (sym (map-append opposite (firsts eq seen) (x ∷ [])) ∙ ap (map opposite) (sym (firsts-push laws seen x ∙ rw e refl))));
        apart = apart;
      }

  -- the next literal's negation joins the set
  pub assumed-next : (lits : List L) (i : ℕ) (x : L) (set new : List L) → i < length lits → x ≡ get_or lits i x
      → IsAssumed eq opposite (take i lits) set → Assumes eq opposite set x new → IsAssumed eq opposite (take (i + 1) lits) new
  assumed-next lits i x set new below at a adds = rw (take_one lits i x below at) (assumed-more (take i lits) set x new a adds)

  -- the next literal is the negation of one before it
  pub assumed-pair : (lits : List L) (i : ℕ) (x : L) (set : List L) → i < length lits → x ≡ get_or lits i x
      → IsAssumed eq opposite (take i lits) set → has eq set x ≡ true → has_pair eq opposite lits ≡ true
  assumed-pair lits i x set below at a pair =
      let here : has_pair eq opposite (take i lits ++ x ∷ []) ≡ true =
      has_pair-push laws (take i lits) x ∙ rw (a.apart, sym (has-set (take i lits) set x a) ∙ pair) refl in
      let there : has_pair eq opposite (take (i + 1) lits) ≡ true = rw (take_one lits i x below at) here in
      subst (λ (l : List L). has_pair eq opposite l ≡ true) (take-append-drop (i + 1) lits)
      (has_pair-append laws (take (i + 1) lits) (drop (i + 1) lits) there)

module _ {L : Type 0} {eq : L → L → Bool} {opposite : L → L} (laws : IsLiteral eq opposite) (differs : (x : L) → eq x (opposite x) ≡ false) where
  -- what is assumed stays without a literal beside its negation
  pub assumed-consistent : (set : List L) (x : L) (new : List L) → IsConsistent eq opposite set → Assumes eq opposite set x new
      → IsConsistent eq opposite new
  assumed-consistent set x new is adds = go (has eq set (opposite x)) refl
    where
      apart : has eq set (opposite (opposite x)) ≡ false
      apart = ap (has eq set) (laws.twice x) ∙ adds.apart

      go : (b : Bool) → has eq set (opposite x) ≡ b → IsConsistent eq opposite new
      go true e = rw (adds.kept, e) is
      go false e = rw (adds.kept, e) (consistent-push laws differs [] [] set (opposite x) is (record { fresh = e; apart = apart }))

-- one fact of a fault gives another
pub if_bad-map : {P Q : Why → Type 0} (e : StepErr) → ((w : Why) → P w → Q w) → IfBad e P → IfBad e Q
if_bad-map (Bad why) f p = f why p
if_bad-map NoMemory f p = tt
