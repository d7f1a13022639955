-- The reasons of the marked places, in the order of the trail, are the hints of a step.
use Rattle.std.proofs.Common.{◌≡◌, ◌<◌, ◌≤◌, ◌+◌, ℕ, arith, Bool, true, false, ◌||◌, ◌⊎◌, inl, inr, List, [], ◌∷◌, ◌++◌, take, length, Option, Some, None, refl, sym, ap, subst, ◌∙◌}
use Rattle.std.specs.Prelude.{map}
use Rattle.std.proofs.Math.Nat.{eq-or-lt_of_le}
use Rattle.std.proofs.lemmas.Bool.{or_cases, or_left, or_right, and_from}
use Rattle.lits.specs.Clause.{has, firsts, has_pair}
use Rattle.lits.specs.Same.{same_lit, opposite}
use Rattle.lits.specs.declared.literal.Lit.{Lit}
use Rattle.lits.specs.declared.step.Ref.{Ref}
use Rattle.lits.specs.contracts.literal.LitLiteral.TheImpl.Laws as lit
use Rattle.lits.proofs.Facts.{has-append, has-firsts, lit_laws}
use Rattle.unit_prop.specs.Closure.{is_negated}
use Rattle.unit_prop.specs.Propagation.{IsConsistent, IsFree}
use Rattle.unit_prop.specs.Step.{start_of, fault_from, IsStep}
use Rattle.unit_prop.proofs.Facts.{contrary, alone, has-map-opposite, all-true, all-at, consistent-push}
use Rattle.solver_plain.specs.Effect.{IsUnit}
use Rattle.solver_plain.proofs.Facts.{after-negated, after-unit, Brings, brings-push, brings-fault, consistent-clause}
use Rattle.watch_lists.specs.Trail.{TrailState, IsTrail, put_at, clause_at, lits_of}
use Rattle.solver_watch.specs.Marked.{is_marked, IsMet, AreMet, IsResolved, IsSupported}
use Rattle.solver_watch.proofs.TrailLemmas.{has-at, place-of, place-one, place-before}
use Rattle.solver_watch.proofs.WalkLemmas.{ground-of}

-- how far the hints of a goal have come: the literals that are true then
pub record IsHinting (find : Ref → Option (List Lit)) (t : TrailState) (marks : List Bool) (goal : List Lit) (at : ℕ) (hints : List Ref) : Type 0 where
  pub set : List Lit
  pub brings : Brings same_lit opposite find (start_of same_lit opposite goal) hints (record { set = set; clashed = false })
  pub consistent : IsConsistent same_lit opposite set
  pub given : (l : Lit) → has same_lit goal l ≡ true → has same_lit set (opposite l) ≡ true
  pub marked : (k : ℕ) → k < at → k < length t.puts → is_marked marks k ≡ true → has same_lit set (put_at t.puts k).lit ≡ true
  pub inside : (l : Lit) → has same_lit set l ≡ true
      → (has same_lit goal (opposite l) ≡ true) ⊎ ((k : ℕ) × (k < at) × (k < length t.puts) × ((put_at t.puts k).lit ≡ l))

start-has : (goal : List Lit) (l : Lit) → has same_lit (map opposite (firsts same_lit goal)) l ≡ has same_lit goal (opposite l)
start-has goal l = has-map-opposite lit_laws (firsts same_lit goal) l ∙ has-firsts lit_laws goal (opposite l)

pub hinting-start : (find : Ref → Option (List Lit)) (t : TrailState) (marks : List Bool) (from : ℕ) (shown goal : List Lit) (conflict : ℕ)
    → has_pair same_lit opposite goal ≡ false → IsSupported t marks from shown goal conflict → IsHinting find t marks goal from []
hinting-start find t marks from shown goal conflict apart s = record {
  set = map opposite (firsts same_lit goal);
  brings = refl;
  consistent = record { apart = λ l h. start-has goal (opposite l) ∙ (consistent-clause goal apart).apart (opposite l) (sym (start-has goal l) ∙ h) };
  given = λ l h. start-has goal (opposite l) ∙ ap (has same_lit goal) (lit_laws.twice l) ∙ h;
  marked = λ k low h m. start-has goal (put_at t.puts k).lit ∙ s.below k low h m;
  inside = λ l h. inl (sym (start-has goal l) ∙ h);
}

module _ (find : Ref → Option (List Lit)) (t : TrailState) (trail : IsTrail t) (marks : List Bool) (from : ℕ) (shown goal : List Lit) (conflict : ℕ)
    (s : IsSupported t marks from shown goal conflict) (at : ℕ) (hints : List Ref) (h : IsHinting find t marks goal at hints) where
  -- a clause of which everything is met and was put before is negated, but for what was forced
  met-negated : (clause : List Lit) (l : Lit) → AreMet t.puts marks clause → has same_lit clause l ≡ true
      → (k : ℕ) × (k < at) × (k < length t.puts) × ((put_at t.puts k).lit ≡ opposite l) → has same_lit h.set (opposite l) ≡ true
  met-negated clause l met inside w =
      subst (λ (m : Lit). has same_lit h.set m ≡ true) w.3 (h.marked w.0 w.1 w.2 (met l inside w.0 w.2 w.3))

  -- where everything is met the conflict ends the step
  pub hinting-end : (name : Ref) → length t.puts ≤ at → find name ≡ Some (clause_at t.clauses conflict)
      → fault_from same_lit opposite find 1 (start_of same_lit opposite goal) (hints ++ name ∷ []) ≡ None
  hinting-end name past named =
      brings-fault same_lit opposite find 1 (start_of same_lit opposite goal) (hints ++ name ∷ []) (record { set = h.set; clashed = true })
      (brings-push same_lit opposite find (start_of same_lit opposite goal) hints (record { set = h.set; clashed = false })
      (record { set = h.set; clashed = true }) name h.brings
      (rw named (after-negated lit_laws h.set (clause_at t.clauses conflict) h.consistent negated)))
      refl
    where
      negated_at : (l : Lit) → has same_lit (clause_at t.clauses conflict) l ≡ true
          → (has same_lit goal l ≡ true) ⊎ ((has same_lit (lits_of t.puts) (opposite l) ≡ true) × IsMet t.puts marks (opposite l))
          → has same_lit h.set (opposite l) ≡ true
      negated_at l inside (inl g) = h.given l g
      negated_at l inside (inr m) =
          let w = place-of t.puts (opposite l) m.0 in
          subst (λ (k : Lit). has same_lit h.set k ≡ true) w.2 (h.marked w.0 (omega (arith, w.1)) w.1 (m.1 w.0 w.1 w.2))

      negated : is_negated opposite (has same_lit h.set) (clause_at t.clauses conflict) ≡ true
      negated = all-true lit_laws (λ m. has same_lit h.set (opposite m)) (clause_at t.clauses conflict)
          (λ l inside. negated_at l inside (s.negated l inside))

  -- the next place
  module _ (above : from ≤ at) (within : at < length t.puts) where
    split_at : (k : ℕ) → k < at + 1 → (k < at) ⊎ (k ≡ at)
    split_at k b = elim (eq-or-lt_of_le (let le : k ≤ at = omega arith in le)) [ inl e ↦ inr e | inr l ↦ inl l ]

    deeper : (set : List Lit) → ((l : Lit) → has same_lit set l ≡ true
        → (has same_lit goal (opposite l) ≡ true) ⊎ ((k : ℕ) × (k < at) × (k < length t.puts) × ((put_at t.puts k).lit ≡ l)))
        → (l : Lit) → has same_lit set l ≡ true
        → (has same_lit goal (opposite l) ≡ true) ⊎ ((k : ℕ) × (k < at + 1) × (k < length t.puts) × ((put_at t.puts k).lit ≡ l))
    deeper set inside l i = elim (inside l i) [ inl g ↦ inl g | inr w ↦ inr (w.0, omega (arith, w.1), w.2, w.3) ]

    -- it isn't marked
    pub hinting-skip : is_marked marks at ≡ false → IsHinting find t marks goal (at + 1) hints
    hinting-skip none = record {
      set = h.set;
      brings = h.brings;
      consistent = h.consistent;
      given = h.given;
      marked = λ k b w m. marked_at k w m (split_at k b);
      inside = deeper h.set h.inside;
    }
      where
        marked_at : (k : ℕ) → k < length t.puts → is_marked marks k ≡ true → (k < at) ⊎ (k ≡ at) → has same_lit h.set (put_at t.puts k).lit ≡ true
        marked_at k w m (inl l) = h.marked k l w m
        marked_at k w m (inr e) = contrary _ (ap (is_marked marks) (sym e) ∙ m) none

    -- the goal negates it
    pub hinting-known : is_marked marks at ≡ true → has same_lit shown (opposite (put_at t.puts at).lit) ≡ true
        → IsHinting find t marks goal (at + 1) hints
    hinting-known here there = record {
      set = h.set;
      brings = h.brings;
      consistent = h.consistent;
      given = h.given;
      marked = λ k b w m. marked_at k w m (split_at k b);
      inside = deeper h.set h.inside;
    }
      where
        in_goal : has same_lit goal (opposite (put_at t.puts at).lit) ≡ true
        in_goal = s.goal_is at above within here ∙ there

        marked_at : (k : ℕ) → k < length t.puts → is_marked marks k ≡ true → (k < at) ⊎ (k ≡ at) → has same_lit h.set (put_at t.puts k).lit ≡ true
        marked_at k w m (inl l) = h.marked k l w m
        marked_at k w m (inr e) =
            ap (λ (j : ℕ). has same_lit h.set (put_at t.puts j).lit) e
            ∙ ap (has same_lit h.set) (sym (lit_laws.twice (put_at t.puts at).lit)) ∙ h.given (opposite (put_at t.puts at).lit) in_goal

    -- it needs no reason
    pub hinting-none : (is_marked marks at ≡ false) ⊎ ((is_marked marks at ≡ true) × (has same_lit shown (opposite (put_at t.puts at).lit) ≡ true))
        → IsHinting find t marks goal (at + 1) hints
    hinting-none (inl none) = hinting-skip none
    hinting-none (inr both_of) = hinting-known both_of.0 both_of.1

    -- it is resolved
    module _ (here : is_marked marks at ≡ true) (there : has same_lit shown (opposite (put_at t.puts at).lit) ≡ false) (by : ℕ)
        (forced : (put_at t.puts at).by ≡ Some by) where
      resolved : IsResolved t marks at
      resolved = s.resolved at above within here there

      same_by : resolved.by ≡ by
      same_by = let e : Some resolved.by ≡ Some by = sym resolved.forced ∙ forced in cc

      met : AreMet t.puts marks (clause_at t.clauses by)
      met = subst (λ (n : ℕ). AreMet t.puts marks (clause_at t.clauses n)) same_by resolved.met

      other : (l : Lit) → has same_lit (clause_at t.clauses by) l ≡ true
          → (same_lit l (put_at t.puts at).lit ≡ true) ⊎ (has same_lit h.set (opposite l) ≡ true)
      other l inside =
          let ground = ground-of t at by trail within forced in
          elim (or_cases _ _ (all-at lit_laws (λ m. same_lit m (put_at t.puts at).lit || has same_lit (lits_of (take at t.puts)) (opposite m))
          (clause_at t.clauses by) l ground.2 inside)) [
            | inl e ↦ inl e
            | inr b ↦ inr (met-negated (clause_at t.clauses by) l met inside (place-before t.puts at (opposite l) b))
          ]

      -- the goal has it: its reason is a conflict
      pub hinting-last : (name : Ref) → has same_lit shown (put_at t.puts at).lit ≡ true → find name ≡ Some (clause_at t.clauses by)
          → fault_from same_lit opposite find 1 (start_of same_lit opposite goal) (hints ++ name ∷ []) ≡ None
      hinting-last name true_here named =
          brings-fault same_lit opposite find 1 (start_of same_lit opposite goal) (hints ++ name ∷ []) (record { set = h.set; clashed = true })
          (brings-push same_lit opposite find (start_of same_lit opposite goal) hints (record { set = h.set; clashed = false })
          (record { set = h.set; clashed = true }) name h.brings
          (rw named (after-negated lit_laws h.set (clause_at t.clauses by) h.consistent negated)))
          refl
        where
          in_goal : has same_lit goal (put_at t.puts at).lit ≡ true
          in_goal = s.ends at above within here ∙ true_here

          negated_at : (l : Lit) → (same_lit l (put_at t.puts at).lit ≡ true) ⊎ (has same_lit h.set (opposite l) ≡ true)
              → has same_lit h.set (opposite l) ≡ true
          negated_at l (inl e) = ap (λ (m : Lit). has same_lit h.set (opposite m)) (lit_laws.exact _ _ e) ∙ h.given (put_at t.puts at).lit in_goal
          negated_at l (inr n) = n

          negated : is_negated opposite (has same_lit h.set) (clause_at t.clauses by) ≡ true
          negated = all-true lit_laws (λ m. has same_lit h.set (opposite m)) (clause_at t.clauses by)
              (λ l inside. negated_at l (other l inside))

      -- its reason is a unit
      pub hinting-next : (name : Ref) → has same_lit shown (put_at t.puts at).lit ≡ false → find name ≡ Some (clause_at t.clauses by)
          → IsHinting find t marks goal (at + 1) (hints ++ name ∷ [])
      hinting-next name open_here named = record {
        set = h.set ++ (put_at t.puts at).lit ∷ [];
        brings = brings-push same_lit opposite find (start_of same_lit opposite goal) hints (record { set = h.set; clashed = false })
            (record { set = h.set ++ (put_at t.puts at).lit ∷ []; clashed = false }) name h.brings
            (rw named (after-unit lit_laws h.set (clause_at t.clauses by) (put_at t.puts at).lit h.consistent unit));
        consistent = consistent-push lit_laws lit.differs-law t.clauses h.set h.set (put_at t.puts at).lit h.consistent free;
        given = λ l g. more (opposite l) (h.given l g);
        marked = λ k b w m. marked_at k w m (split_at k b);
        inside = λ l i. inside_at l (or_cases _ _ (sym (has-append lit_laws h.set ((put_at t.puts at).lit ∷ []) l) ∙ i));
      }
        where
          more : (l : Lit) → has same_lit h.set l ≡ true → has same_lit (h.set ++ (put_at t.puts at).lit ∷ []) l ≡ true
          more l i = has-append lit_laws h.set ((put_at t.puts at).lit ∷ []) l ∙ or_left _ _ i

          fresh_at : (b : Bool) → has same_lit h.set (put_at t.puts at).lit ≡ b → has same_lit h.set (put_at t.puts at).lit ≡ false
          fresh_at false e = e
          fresh_at true e = elim (h.inside (put_at t.puts at).lit e) [
            | inl g ↦ contrary _ g (s.goal_is at above within here ∙ there)
            | inr w ↦ let same : w.0 ≡ at = place-one t.puts w.0 at trail.single w.2 within w.3 in absurd (omega (arith, w.1))
          ]

          apart_at : (b : Bool) → has same_lit h.set (opposite (put_at t.puts at).lit) ≡ b → has same_lit h.set (opposite (put_at t.puts at).lit) ≡ false
          apart_at false e = e
          apart_at true e = elim (h.inside (opposite (put_at t.puts at).lit) e) [
            | inl g ↦ contrary _ (ap (has same_lit goal) (sym (lit_laws.twice (put_at t.puts at).lit)) ∙ g) (s.ends at above within here ∙ open_here)
            | inr w ↦ contrary _ (ap (has same_lit (lits_of t.puts)) (sym w.3) ∙ has-at t.puts w.0 w.2)
                (trail.consistent.apart (put_at t.puts at).lit (has-at t.puts at within))
          ]

          free : IsFree same_lit opposite h.set (put_at t.puts at).lit
          free = record { fresh = fresh_at _ refl; apart = apart_at _ refl }

          either : (l : Lit) → (same_lit l (put_at t.puts at).lit ≡ true) ⊎ (has same_lit h.set (opposite l) ≡ true)
              → (same_lit l (put_at t.puts at).lit || has same_lit h.set (opposite l)) ≡ true
          either l (inl e) = or_left _ _ e
          either l (inr n) = or_right (same_lit l (put_at t.puts at).lit) _ n

          unit : IsUnit same_lit opposite h.set (clause_at t.clauses by) (put_at t.puts at).lit
          unit = record {
            free = free;
            forced = and_from _ _ (ground-of t at by trail within forced).1
                (all-true lit_laws (λ m. same_lit m (put_at t.puts at).lit || has same_lit h.set (opposite m)) (clause_at t.clauses by)
                (λ l inside. either l (other l inside)));
          }

          marked_at : (k : ℕ) → k < length t.puts → is_marked marks k ≡ true → (k < at) ⊎ (k ≡ at)
              → has same_lit (h.set ++ (put_at t.puts at).lit ∷ []) (put_at t.puts k).lit ≡ true
          marked_at k w m (inl l) = more (put_at t.puts k).lit (h.marked k l w m)
          marked_at k w m (inr e) =
              has-append lit_laws h.set ((put_at t.puts at).lit ∷ []) (put_at t.puts k).lit
              ∙ or_right (has same_lit h.set (put_at t.puts k).lit) _
              (or_left _ _ (ap (λ (j : ℕ). same_lit (put_at t.puts at).lit (put_at t.puts j).lit) e ∙ lit_laws.equivalence.refl (put_at t.puts at).lit))

          inside_at : (l : Lit) → (has same_lit h.set l ≡ true) ⊎ (has same_lit ((put_at t.puts at).lit ∷ []) l ≡ true)
              → (has same_lit goal (opposite l) ≡ true) ⊎ ((k : ℕ) × (k < at + 1) × (k < length t.puts) × ((put_at t.puts k).lit ≡ l))
          inside_at l (inl i) = deeper h.set h.inside l i
          inside_at l (inr i) = inr (at, omega arith, within, lit_laws.exact _ _ (alone _ i))

pub step-of : (find : Ref → Option (List Lit)) (goal : List Lit) (hints : List Ref) → has_pair same_lit opposite goal ≡ false
    → fault_from same_lit opposite find 1 (start_of same_lit opposite goal) hints ≡ None → IsStep same_lit opposite find goal hints
step-of find goal hints apart e = rw apart e
