-- What comes next of a target's negations.
use Rattle.std.proofs.Common.{◌≡◌, ◌<◌, ◌+◌, ℕ, zero, suc, arith, true, false, inl, inr, List, [], ◌∷◌, take, get_or, length, None, sym, ap, subst, ◌∙◌}
use Rattle.std.specs.List.{AllByRecursion}
use Rattle.std.proofs.lemmas.List.{take_more}
use Rattle.std.proofs.lemmas.Bool.{or_cases, or_left, or_right}
use Rattle.lits.specs.Clause.{has, has_pair}
use Rattle.lits.specs.Same.{same_lit, opposite}
use Rattle.lits.specs.declared.literal.Lit.{Lit}
use Rattle.lits.proofs.Facts.{has-append, lit_laws}
use Rattle.unit_prop.proofs.Facts.{contrary, alone}
use Rattle.solver_plain.proofs.Facts.{consistent-clause}
use Rattle.flat_base.specs.Codes.{lit_at, IsCode}
use Rattle.watch_lists.specs.Codes.{flip}
use Rattle.watch_lists.specs.Trail.{TrailState, IsTrail, put_at, lits_of}
use Rattle.watch_lists.proofs.Facts.{lit_at-flip, flip-code}
use Rattle.solver_watch.specs.Assuming.{IsChosen}
use Rattle.solver_watch.specs.Choice.{IsOpenCode}
use Rattle.solver_watch.proofs.AssumeLemmas.{all-at_place}

pub lit-in : (xs : List Lit) (i : ℕ) (d : Lit) → i < length xs → has same_lit xs (get_or xs i d) ≡ true
lit-in [] i d h = absurd (omega arith)
lit-in (x ∷ xs) zero d h = or_left _ _ (lit_laws.equivalence.refl x)
lit-in (x ∷ xs) (suc i) d h = or_right (same_lit x (get_or xs i d)) _ (lit-in xs i d (omega arith))

-- a literal of the target that is true was forced
pub refuted-forced : (t : TrailState) (target : List Lit) (place : ℕ) (l : Lit) → IsTrail t → AllByRecursion (IsChosen target t.last) t.puts
    → has_pair same_lit opposite target ≡ false → place < length t.puts → (put_at t.puts place).lit ≡ l → has same_lit target l ≡ true
    → (put_at t.puts place).by ≡ None → ⊥
refuted-forced t target place l trail chosen apart h at inside none =
    contrary _ (all-at_place (IsChosen target t.last) t.puts place h chosen none (trail.most place h))
    (ap (λ (m : Lit). has same_lit target (opposite m)) at ∙ (consistent-clause target apart).apart l inside)

-- the negation of a literal that has no value can be assumed
pub open-of : (t : TrailState) (target : List Lit) (code negation : ℕ) (l : Lit) → IsCode t.nodes code → lit_at t.nodes code ≡ l
    → negation ≡ flip code → has same_lit target l ≡ true → has same_lit (lits_of t.puts) (lit_at t.nodes code) ≡ false
    → has same_lit (lits_of t.puts) (lit_at t.nodes negation) ≡ false
    → IsOpenCode t negation × (has same_lit target (opposite (lit_at t.nodes negation)) ≡ true)
open-of t target code negation l is at e inside fresh other = (
  record {
    is = subst (λ (c : ℕ). IsCode t.nodes c) (sym e) (flip-code t.nodes code is);
    free = record { fresh = other; apart = ap (has same_lit (lits_of t.puts)) back ∙ fresh };
  },
  ap (has same_lit target) (back ∙ at) ∙ inside,
)
  where
    back : opposite (lit_at t.nodes negation) ≡ lit_at t.nodes code
    back = ap (λ (c : ℕ). opposite (lit_at t.nodes c)) e ∙ ap opposite (lit_at-flip t.nodes code) ∙ lit_laws.twice (lit_at t.nodes code)

pub assumed-next : (P : Lit → Type 0) (xs : List Lit) (i : ℕ) (d : Lit) → i < length xs → ((m : Lit) → has same_lit (take i xs) m ≡ true → P m)
    → P (get_or xs i d) → (m : Lit) → has same_lit (take (i + 1) xs) m ≡ true → P m
assumed-next P xs i d h so_far here m inside =
    elim (or_cases _ _ (sym (ap (λ (ys : List Lit). has same_lit ys m) (take_more xs i d h) ∙ has-append lit_laws (take i xs) (get_or xs i d ∷ []) m) ∙ inside)) [
      | inl e ↦ so_far m e
      | inr e ↦ subst P (lit_laws.exact _ _ (alone _ e)) here
    ]

pub negation-there : (t : TrailState) (code negation : ℕ) (l : Lit) → lit_at t.nodes code ≡ l → negation ≡ flip code
    → has same_lit (lits_of t.puts) (lit_at t.nodes negation) ≡ true → has same_lit (lits_of t.puts) (opposite l) ≡ true
negation-there t code negation l at e h =
    ap (has same_lit (lits_of t.puts)) (sym (ap (λ (c : ℕ). lit_at t.nodes c) e ∙ lit_at-flip t.nodes code ∙ ap opposite at)) ∙ h
