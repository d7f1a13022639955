-- The walk from a conflict of the target's negations.
use Rattle.std.proofs.Common.{◌≡◌, ◌<◌, ◌≤◌, ◌+◌, ℕ, arith, Bool, true, false, not, ◌&&◌, ◌⊎◌, inl, inr, List, length, Option, Some, None, refl, sym, ap, subst, ◌∙◌}
use Rattle.std.specs.Prelude.{IsSome}
use Rattle.std.proofs.Math.Nat.{eq-or-lt_of_le}
use Rattle.lits.specs.Clause.{has}
use Rattle.lits.specs.Same.{same_lit, opposite}
use Rattle.lits.specs.declared.literal.Lit.{Lit}
use Rattle.unit_prop.proofs.Facts.{contrary}
use Rattle.watch_lists.specs.Trail.{TrailState, IsTrail, put_at, clause_at}
use Rattle.solver_watch.specs.declared.cut.Cut.{Cut}
use Rattle.solver_watch.specs.Assuming.{IsChosen}
use Rattle.solver_watch.specs.Marked.{is_marked, IsCounted, AreMet, IsResolved, IsTraced, IsSupported, IsRefuted}
use Rattle.solver_watch.proofs.WalkLemmas.{resolved-keeps}
use Rattle.solver_watch.proofs.AssumeLemmas.{all-at_place}

-- from the place on each marked place is resolved, or of one of the target's negations
pub record IsTracing (t : TrailState) (target : List Lit) (place : ℕ) (cut : Cut) : Type 0 where
  pub counted : IsCounted t.puts t.last cut
  pub resolved : (k : ℕ) → place ≤ k → k < length t.puts → is_marked cut.marks k ≡ true
      → has same_lit target (opposite (put_at t.puts k).lit) ≡ false → IsResolved t cut.marks k

pub tracing-start : (t : TrailState) (target : List Lit) (place : ℕ) (cut : Cut) → length t.puts ≤ place → IsCounted t.puts t.last cut
    → IsTracing t target place cut
tracing-start t target place cut past counted = record { counted = counted; resolved = λ k from h. absurd (omega arith) }

both_at : (a b : Bool) → (a && not b) ≡ true → (a ≡ true) × (b ≡ false)
both_at true false e = (refl, refl)
both_at true true e = cc
both_at false b e = cc

neither_at : (a b : Bool) → (a && not b) ≡ false → a ≡ true → b ≡ false → ⊥
neither_at true false e f g = let z : true ≡ false = e in cc
neither_at true true e f g = let z : true ≡ false = g in cc
neither_at false b e f g = let z : false ≡ true = f in cc

-- a place that isn't one of the target's negations was forced
pub behind-forced : (t : TrailState) (target : List Lit) (conflict k : ℕ) (marks : List Bool) → IsTrail t → IsRefuted t target conflict → k < length t.puts
    → (is_marked marks k && not (has same_lit target (opposite (put_at t.puts k).lit))) ≡ true → IsSome (put_at t.puts k).by
behind-forced t target conflict k marks trail refuted h e = go (put_at t.puts k).by refl
  where
    go : (o : Option ℕ) → (put_at t.puts k).by ≡ o → IsSome o
    go (Some by) f = refl
    go None f =
        contrary _ (all-at_place (IsChosen target t.last) t.puts k h refuted.chosen f (trail.most k h))
        (both_at (is_marked marks k) (has same_lit target (opposite (put_at t.puts k).lit)) e).1

module _ (t : TrailState) (target : List Lit) (cut : Cut) (place : ℕ) (within : place < length t.puts)
    (tracing : IsTracing t target (place + 1) cut) where
  above : (k : ℕ) → place ≤ k → (k ≡ place) ⊎ (place + 1 ≤ k)
  above k h = elim (eq-or-lt_of_le h) [ inl e ↦ inl (sym e) | inr l ↦ inr (omega arith) ]

  pub tracing-skip : (is_marked cut.marks place && not (has same_lit target (opposite (put_at t.puts place).lit))) ≡ false
      → IsTracing t target place cut
  tracing-skip e = record {
    counted = tracing.counted;
    resolved = λ k from h m other. resolved_at k h m other (above k from);
  }
    where
      resolved_at : (k : ℕ) → k < length t.puts → is_marked cut.marks k ≡ true → has same_lit target (opposite (put_at t.puts k).lit) ≡ false
          → (k ≡ place) ⊎ (place + 1 ≤ k) → IsResolved t cut.marks k
      resolved_at k h m other (inl s) = absurd (neither_at (is_marked cut.marks place) (has same_lit target (opposite (put_at t.puts place).lit)) e
          (ap (is_marked cut.marks) (sym s) ∙ m) (ap (λ (j : ℕ). has same_lit target (opposite (put_at t.puts j).lit)) (sym s) ∙ other))
      resolved_at k h m other (inr l) = tracing.resolved k l h m other

  pub tracing-next : (new : Cut) → IsTraced t place cut new → IsTracing t target place new
  tracing-next new tr = record {
    counted = tr.counted;
    resolved = λ k from h m other. resolved_at k h m other (above k from);
  }
    where
      resolved_at : (k : ℕ) → k < length t.puts → is_marked new.marks k ≡ true → has same_lit target (opposite (put_at t.puts k).lit) ≡ false
          → (k ≡ place) ⊎ (place + 1 ≤ k) → IsResolved t new.marks k
      resolved_at k h m other (inl s) = subst (λ (j : ℕ). IsResolved t new.marks j) (sym s) tr.resolved
      resolved_at k h m other (inr l) = elim (tr.fresh k h m) [
        | inl o ↦ resolved-keeps t cut.marks new.marks k tr.keeps (tracing.resolved k l h o other)
        | inr b ↦ absurd (omega arith)
      ]

pub tracing-end : (t : TrailState) (target : List Lit) (conflict place : ℕ) (cut : Cut) → IsRefuted t target conflict → place ≤ 0
    → IsTracing t target place cut → AreMet t.puts cut.marks (clause_at t.clauses conflict)
    → IsSupported t cut.marks 0 target target conflict
tracing-end t target conflict place cut refuted low tracing met = record {
  room = tracing.counted.room;
  below = λ k h. absurd (omega arith);
  resolved = λ k from h m other. tracing.resolved k (omega arith) h m other;
  goal_is = λ k from h m. refl;
  ends = λ k from h m. refl;
  number = refuted.number;
  negated = λ l inside. elim (refuted.negated l inside) [ inl g ↦ inl g | inr o ↦ inr (o, met l inside) ];
}
