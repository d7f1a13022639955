-- What a conflict's first unique implication point teaches.
use Rattle.std.proofs.Common.{◌≡◌, ◌≢◌, ◌<◌, ◌≤◌, ◌+◌, ◌-◌, ℕ, arith, Bool, true, false, not, ◌||◌, ◌⊎◌, inl, inr, List, [], ◌∷◌, nat_eq, length, refl, sym, ap, subst, ◌∙◌}
use Rattle.std.specs.Prelude.{map, filter}
use Rattle.std.specs.List.{AllByRecursion}
use Rattle.std.proofs.lemmas.List.Folds.{list_any-append}
use Rattle.std.proofs.lemmas.Bool.{or_cases, or_left, or_right, and_parts, not-true}
use Rattle.lits.specs.Clause.{has, firsts, has_pair, no_repeat, IsClause}
use Rattle.lits.specs.Same.{same_lit, same_node, opposite}
use Rattle.lits.specs.declared.literal.Lit.{Lit}
use Rattle.lits.specs.declared.step.Step.{Step}
use Rattle.lits.proofs.Facts.{has-firsts, lit_laws}
use Rattle.unit_prop.specs.Closure.{forces}
use Rattle.unit_prop.specs.New.{occurs, others_negated, IsNew}
use Rattle.unit_prop.specs.Log.{base_clauses, clauses_of}
use Rattle.unit_prop.specs.Refuter.{is_over, IsOver}
use Rattle.unit_prop.specs.Step.{IsStep}
use Rattle.lits.specs.declared.step.Ref.{Ref}
use Rattle.solver_plain.specs.Formula.{clause_named}
use Rattle.solver_watch.specs.Search.{IsLesson}
use Rattle.unit_prop.proofs.Facts.{contrary, has-filter, has-map-opposite, all-at}
use Rattle.solver_plain.proofs.Facts.{all-each, each-of, list_all-not, pair-none}
use Rattle.watch_lists.specs.Trail.{TrailState, IsTrail, IsQuiet, IsConflict, put_at, clause_at, lits_of, up_to}
use Rattle.watch_lists.specs.declared.put.Put.{Put}
use Rattle.watch_lists.proofs.Facts.{same_refl, same_exact}
use Rattle.solver_watch.specs.declared.cut.Cut.{Cut}
use Rattle.solver_watch.specs.declared.formula.Formula.{Formula}
use Rattle.solver_watch.specs.Known.{base_in, IsKnown, clauses_known}
use Rattle.solver_watch.specs.Marked.{is_marked, AreMet, IsCut, IsSupported, IsSecond, AreWithin, negations_at}
use Rattle.solver_watch.proofs.TrailLemmas.{has-at, place-one, up_to-at, place-up_to}

-- a negation among those at some places
pub negation-of : (puts : List Put) (places : List ℕ) (l : Lit) → has same_lit (negations_at puts places) l ≡ true
    → (k : ℕ) × (has nat_eq places k ≡ true) × (opposite (put_at puts k).lit ≡ l)
negation-of puts [] l h = cc
negation-of puts (p ∷ ps) l h =
    elim (or_cases (same_lit (opposite (put_at puts p).lit) l) (has same_lit (negations_at puts ps) l) h) [
      | inl e ↦ (p, or_left _ _ (same_refl p), lit_laws.exact _ _ e)
      | inr e ↦ let w = negation-of puts ps l e in (w.0, or_right (nat_eq p w.0) _ w.1, w.2)
    ]

pub negation-at : (puts : List Put) (places : List ℕ) (k : ℕ) → has nat_eq places k ≡ true
    → has same_lit (negations_at puts places) (opposite (put_at puts k).lit) ≡ true
negation-at puts [] k h = cc
negation-at puts (p ∷ ps) k h =
    elim (or_cases (nat_eq p k) (has nat_eq ps k) h) [
      | inl e ↦ or_left _ _
          (ap (λ (n : ℕ). same_lit (opposite (put_at puts n).lit) (opposite (put_at puts k).lit)) (same_exact p k e)
          ∙ lit_laws.equivalence.refl (opposite (put_at puts k).lit))
      | inr e ↦ or_right (same_lit (opposite (put_at puts p).lit) (opposite (put_at puts k).lit)) _ (negation-at puts ps k e)
    ]

-- negations of literals of a trail have no pair
pub negations-apart : (t : TrailState) (places : List ℕ) → IsTrail t → AreWithin t.puts places
    → has_pair same_lit opposite (negations_at t.puts places) ≡ false
negations-apart t places trail within = pair-none lit_laws (negations_at t.puts places) (λ l h. apart_at l h (has same_lit (negations_at t.puts places) (opposite l)) refl)
  where
    on : (l : Lit) → has same_lit (negations_at t.puts places) l ≡ true → has same_lit (lits_of t.puts) (opposite l) ≡ true
    on l h =
        let w = negation-of t.puts places l h in
        ap (λ (m : Lit). has same_lit (lits_of t.puts) (opposite m)) (sym w.2)
        ∙ ap (has same_lit (lits_of t.puts)) (lit_laws.twice (put_at t.puts w.0).lit) ∙ has-at t.puts w.0 (within w.0 w.1)

    apart_at : (l : Lit) → has same_lit (negations_at t.puts places) l ≡ true → (b : Bool)
        → has same_lit (negations_at t.puts places) (opposite l) ≡ b → has same_lit (negations_at t.puts places) (opposite l) ≡ false
    apart_at l h false e = e
    apart_at l h true e = contrary _ (on (opposite l) e) (trail.consistent.apart (opposite l) (on l h))

-- nor a repeat, where no place stands twice
negations-once : (t : TrailState) (places : List ℕ) → IsTrail t → AreWithin t.puts places → no_repeat nat_eq places ≡ true
    → no_repeat same_lit (negations_at t.puts places) ≡ true
negations-once t [] trail within once = refl
negations-once t (p ∷ ps) trail within once =
    let parts = and_parts (not (has nat_eq ps p)) (no_repeat nat_eq ps) once in
    let rest = negations-once t ps trail (λ k h. within k (or_right (nat_eq p k) _ h)) parts.1 in
    rw (fresh (not-true _ parts.0) (has same_lit (negations_at t.puts ps) (opposite (put_at t.puts p).lit)) refl, rest) refl
  where
    fresh : has nat_eq ps p ≡ false → (b : Bool) → has same_lit (negations_at t.puts ps) (opposite (put_at t.puts p).lit) ≡ b
        → has same_lit (negations_at t.puts ps) (opposite (put_at t.puts p).lit) ≡ false
    fresh none false e = e
    fresh none true e =
        let w = negation-of t.puts ps (opposite (put_at t.puts p).lit) e in
        let at : (put_at t.puts w.0).lit ≡ (put_at t.puts p).lit =
        sym (lit_laws.twice (put_at t.puts w.0).lit) ∙ ap opposite w.2 ∙ lit_laws.twice (put_at t.puts p).lit in
        let same : w.0 ≡ p = place-one t.puts w.0 p trail.single (within w.0 (or_right (nat_eq p w.0) _ w.1)) (within p (or_left _ _ (same_refl p))) at in
        contrary _ (ap (has nat_eq ps) (sym same) ∙ w.1) none

-- such a list is its own first elements
pub firsts-once : (xs : List Lit) → no_repeat same_lit xs ≡ true → firsts same_lit xs ≡ xs
firsts-once [] once = refl
firsts-once (x ∷ xs) once =
    let parts = and_parts (not (has same_lit xs x)) (no_repeat same_lit xs) once in
    ap (λ (ys : List Lit). x ∷ filter (λ y. not (same_lit x y)) ys) (firsts-once xs parts.1) ∙ ap (λ (ys : List Lit). x ∷ ys) (all-other xs (not-true _ parts.0))
  where
    all-other : (ys : List Lit) → has same_lit ys x ≡ false → filter (λ y. not (same_lit x y)) ys ≡ ys
    all-other [] none = refl
    all-other (y ∷ ys) none = go (same_lit y x) (same_lit x y) refl refl (λ rest. all-other ys rest)
      where
        go : (a b : Bool) → same_lit y x ≡ a → same_lit x y ≡ b → (has same_lit ys x ≡ false → filter (λ z. not (same_lit x z)) ys ≡ ys)
            → filter (λ z. not (same_lit x z)) (y ∷ ys) ≡ y ∷ ys
        go true b e f rec = contrary _ (or_left _ _ e) none
        go false true e f rec = contrary _ (lit_laws.equivalence.symm y x ∙ f) e
        go false false e f rec = rw f (ap (λ (zs : List Lit). y ∷ zs) (rec (rw e at none)))

module _ (t : TrailState) (trail : IsTrail t) (point : ℕ) (cut : Cut) (is_cut : IsCut t point cut) where
  pub places-within : AreWithin t.puts (point ∷ cut.below.items)
  places-within k h = elim (or_cases (nat_eq point k) (has nat_eq cut.below.items k) h) [
    | inl e ↦ subst (λ (j : ℕ). j < length t.puts) (same_exact point k e) is_cut.within
    | inr e ↦ (is_cut.only k e).0
  ]

  pub below-within : AreWithin t.puts cut.below.items
  below-within k h = (is_cut.only k h).0

  -- the point isn't of an earlier level
  point-fresh : (b : Bool) → has nat_eq cut.below.items point ≡ b → has nat_eq cut.below.items point ≡ false
  point-fresh false e = e
  point-fresh true e = let low = (is_cut.only point e).1 in let at = is_cut.at_last in absurd (omega arith)

  -- so what the cut teaches is a clause
  pub cut-clause : IsClause same_lit opposite (negations_at t.puts (point ∷ cut.below.items))
  cut-clause = record {
    once = negations-once t (point ∷ cut.below.items) trail places-within (rw (point-fresh (has nat_eq cut.below.items point) refl, is_cut.once) refl);
    apart = negations-apart t (point ∷ cut.below.items) trail places-within;
  }

  -- what the goal negates
  goal-has : (l : Lit) → has same_lit (firsts same_lit (negations_at t.puts (point ∷ cut.below.items))) l
      ≡ has same_lit (negations_at t.puts (point ∷ cut.below.items)) l
  goal-has l = has-firsts lit_laws (negations_at t.puts (point ∷ cut.below.items)) l

  -- a place whose literal the goal negates is the point or one of `below`
  negated-place : (k : ℕ) → k < length t.puts
      → has same_lit (firsts same_lit (negations_at t.puts (point ∷ cut.below.items))) (opposite (put_at t.puts k).lit) ≡ true
      → (k ≡ point) ⊎ ((put_at t.puts k).level < t.last)
  negated-place k h e =
      let w = negation-of t.puts (point ∷ cut.below.items) (opposite (put_at t.puts k).lit) (sym (goal-has (opposite (put_at t.puts k).lit)) ∙ e) in
      let at : (put_at t.puts w.0).lit ≡ (put_at t.puts k).lit =
      sym (lit_laws.twice (put_at t.puts w.0).lit) ∙ ap opposite w.2 ∙ lit_laws.twice (put_at t.puts k).lit in
      let same : w.0 ≡ k = place-one t.puts w.0 k trail.single (places-within w.0 w.1) h at in
      elim (or_cases (nat_eq point w.0) (has nat_eq cut.below.items w.0) w.1) [
        | inl f ↦ inl (sym (same_exact point w.0 f ∙ same))
        | inr f ↦ inr (subst (λ (j : ℕ). (put_at t.puts j).level < t.last) same (is_cut.only w.0 f).1)
      ]

  behind-level : (k : ℕ) → point < k → k < length t.puts → (put_at t.puts k).level ≡ t.last
  behind-level k from h =
      let up = trail.rising point k (omega arith) h in
      let most = trail.most k h in
      let at = is_cut.at_last in omega arith

  not-negated : (k : ℕ) → point + 1 ≤ k → k < length t.puts
      → has same_lit (firsts same_lit (negations_at t.puts (point ∷ cut.below.items))) (opposite (put_at t.puts k).lit) ≡ false
  not-negated k from h = go _ refl
    where
      go : (b : Bool) → has same_lit (firsts same_lit (negations_at t.puts (point ∷ cut.below.items))) (opposite (put_at t.puts k).lit) ≡ b
          → has same_lit (firsts same_lit (negations_at t.puts (point ∷ cut.below.items))) (opposite (put_at t.puts k).lit) ≡ false
      go false e = e
      go true e = elim (negated-place k h e) [
        | inl s ↦ absurd (omega arith)
        | inr l ↦ let at = behind-level k (omega arith) h in absurd (omega arith)
      ]

  not-there : (k : ℕ) → k < length t.puts
      → has same_lit (firsts same_lit (negations_at t.puts (point ∷ cut.below.items))) (put_at t.puts k).lit ≡ false
  not-there k h = go _ refl
    where
      go : (b : Bool) → has same_lit (firsts same_lit (negations_at t.puts (point ∷ cut.below.items))) (put_at t.puts k).lit ≡ b
          → has same_lit (firsts same_lit (negations_at t.puts (point ∷ cut.below.items))) (put_at t.puts k).lit ≡ false
      go false e = e
      go true e =
          let w = negation-of t.puts (point ∷ cut.below.items) (put_at t.puts k).lit (sym (goal-has (put_at t.puts k).lit) ∙ e) in
          contrary _ (ap (has same_lit (lits_of t.puts)) w.2 ∙ has-at t.puts k h)
          (trail.consistent.apart (put_at t.puts w.0).lit (has-at t.puts w.0 (places-within w.0 w.1)))

  place-marked : (k : ℕ) → k < point + 1 → is_marked cut.marks k ≡ true
      → has nat_eq (point ∷ cut.below.items) k ≡ true
  place-marked k low m = go (nat_eq point k) refl
    where
      go : (b : Bool) → nat_eq point k ≡ b → has nat_eq (point ∷ cut.below.items) k ≡ true
      go true e = or_left _ _ e
      go false e = or_right (nat_eq point k) _ (is_cut.lower k (apart_from k low e) m)
        where
          apart_from : (j : ℕ) → j < point + 1 → nat_eq point j ≡ false → j < point
          apart_from j l f = less (nat_eq point j) refl
            where
              less : (b : Bool) → nat_eq point j ≡ b → j < point
              less true g = contrary _ g f
              less false g =
                  let ne : j ≢ point = (λ s. contrary _ (ap (nat_eq point) s ∙ same_refl point) f) in omega arith

  -- the reasons behind the point show the goal
  pub cut-supported : (conflict : ℕ) → conflict < length t.clauses → IsConflict t.puts (clause_at t.clauses conflict)
      → AreMet t.puts cut.marks (clause_at t.clauses conflict)
      → IsSupported t cut.marks (point + 1) [] (firsts same_lit (negations_at t.puts (point ∷ cut.below.items))) conflict
  cut-supported conflict number negated met = record {
    room = is_cut.room;
    below = λ k low h m. goal-has (opposite (put_at t.puts k).lit) ∙ negation-at t.puts (point ∷ cut.below.items) k (place-marked k low m);
    resolved = λ k from h m _. is_cut.resolved k (omega arith) h m;
    goal_is = λ k from h m. not-negated k from h;
    ends = λ k from h m. not-there k h;
    number = number;
    negated = λ l inside. inr (
      all-at lit_laws (λ m. has same_lit (lits_of t.puts) (opposite m)) (clause_at t.clauses conflict) l negated inside,
      met l inside,
    );
  }

  -- the point's negation is the one literal that is not negated at the levels below the last
  pub cut-new : (clauses : List (List Lit)) → clauses ≡ t.clauses → 1 ≤ t.last
      → AllByRecursion (λ l. occurs same_lit opposite clauses l ≡ true) (firsts same_lit (negations_at t.puts (point ∷ cut.below.items)))
      → IsNew same_lit opposite clauses (firsts same_lit (negations_at t.puts (point ∷ cut.below.items)))
  cut-new clauses same level known = subst (λ (cs : List (List Lit)).
      AllByRecursion (λ l. occurs same_lit opposite cs l ≡ true) (firsts same_lit (negations_at t.puts (point ∷ cut.below.items)))
      → IsNew same_lit opposite cs (firsts same_lit (negations_at t.puts (point ∷ cut.below.items)))) (sym same) (λ known_here. record {
        known = known_here;
        lit = opposite (put_at t.puts point).lit;
        inside = goal-has (opposite (put_at t.puts point).lit) ∙ or_left _ _ (lit_laws.equivalence.refl (opposite (put_at t.puts point).lit));
        missed = record {
          set = has same_lit (lits_of (up_to (t.last - 1) t.puts));
          closed = record {
            starts = λ l h. start_at l h;
            units = (trail.complete (t.last - 1) (omega arith)).0.closed.units;
          };
          apart = (trail.complete (t.last - 1) (omega arith)).1;
          lacks = lacks_at _ refl;
        };
      }) known
    where
      lacks_at : (b : Bool) → has same_lit (lits_of (up_to (t.last - 1) t.puts)) (opposite (put_at t.puts point).lit) ≡ b
          → has same_lit (lits_of (up_to (t.last - 1) t.puts)) (opposite (put_at t.puts point).lit) ≡ false
      lacks_at false e = e
      lacks_at true e =
          let w = place-up_to t.puts (t.last - 1) (opposite (put_at t.puts point).lit) e in
          contrary _ (ap (has same_lit (lits_of t.puts)) (sym w.2) ∙ has-at t.puts w.0 w.1)
          (trail.consistent.apart (put_at t.puts point).lit (has-at t.puts point is_cut.within))

      start_of_place : (l : Lit) → has same_lit (firsts same_lit (negations_at t.puts (point ∷ cut.below.items))) (opposite l) ≡ true
          → same_lit (opposite l) (opposite (put_at t.puts point).lit) ≡ false
          → has same_lit (lits_of (up_to (t.last - 1) t.puts)) l ≡ true
      start_of_place l inside other =
          let w = negation-of t.puts (point ∷ cut.below.items) (opposite l) (sym (goal-has (opposite l)) ∙ inside) in
          let at : (put_at t.puts w.0).lit ≡ l = sym (lit_laws.twice (put_at t.puts w.0).lit) ∙ ap opposite w.2 ∙ lit_laws.twice l in
          elim (or_cases (nat_eq point w.0) (has nat_eq cut.below.items w.0) w.1) [
            | inl f ↦ contrary _ (ap (λ (m : Lit). same_lit m (opposite (put_at t.puts point).lit))
                (sym w.2 ∙ ap (λ (j : ℕ). opposite (put_at t.puts j).lit) (sym (same_exact point w.0 f)))
                ∙ lit_laws.equivalence.refl (opposite (put_at t.puts point).lit)) other
            | inr f ↦
                let low = is_cut.only w.0 f in
                subst (λ (m : Lit). has same_lit (lits_of (up_to (t.last - 1) t.puts)) m ≡ true) at
                (up_to-at t.puts (t.last - 1) w.0 low.0 (omega (arith, low.1)))
          ]

      start_at : (l : Lit) → has same_lit (others_negated same_lit opposite (firsts same_lit (negations_at t.puts (point ∷ cut.below.items)))
          (opposite (put_at t.puts point).lit)) l ≡ true → has same_lit (lits_of (up_to (t.last - 1) t.puts)) l ≡ true
      start_at l h =
          let f = sym (has-map-opposite lit_laws (filter (λ m. not (same_lit m (opposite (put_at t.puts point).lit)))
          (firsts same_lit (negations_at t.puts (point ∷ cut.below.items)))) l) ∙ h in
          let g = sym (has-filter lit_laws (λ m. not (same_lit m (opposite (put_at t.puts point).lit)))
          (firsts same_lit (negations_at t.puts (point ∷ cut.below.items))) (opposite l)) ∙ f in
          let parts = and_parts _ _ g in
          start_of_place l parts.0 (not-true _ parts.1)

  -- below the second highest level two of the goal's literals aren't negated
  pub cut-quiet : (second : ℕ) → IsSecond t.puts cut.below.items second → second < t.last → (level : ℕ) → level < second
      → IsQuiet (up_to level t.puts) (firsts same_lit (negations_at t.puts (point ∷ cut.below.items)))
  cut-quiet second (inl none) lower level below = absurd (omega arith)
  cut-quiet second (inr w) lower level below = (
    list_all-not lit_laws (λ m. has same_lit (lits_of (up_to level t.puts)) (opposite m))
        (firsts same_lit (negations_at t.puts (point ∷ cut.below.items))) (opposite (put_at t.puts point).lit) point_in
        (not_yet point is_cut.within (let at = is_cut.at_last in omega arith)),
    λ l inside forced. settled_at l forced (same_lit (opposite (put_at t.puts point).lit) l) refl,
  )
    where
      point_in : has same_lit (firsts same_lit (negations_at t.puts (point ∷ cut.below.items))) (opposite (put_at t.puts point).lit) ≡ true
      point_in = goal-has (opposite (put_at t.puts point).lit) ∙ or_left _ _ (lit_laws.equivalence.refl (opposite (put_at t.puts point).lit))

      second_in : has same_lit (firsts same_lit (negations_at t.puts (point ∷ cut.below.items))) (opposite (put_at t.puts w.0).lit) ≡ true
      second_in = goal-has (opposite (put_at t.puts w.0).lit)
          ∙ negation-at t.puts (point ∷ cut.below.items) w.0 (or_right (nat_eq point w.0) _ w.1)

      not_yet : (k : ℕ) → k < length t.puts → level < (put_at t.puts k).level
          → has same_lit (lits_of (up_to level t.puts)) (opposite (opposite (put_at t.puts k).lit)) ≡ false
      not_yet k h later = ap (has same_lit (lits_of (up_to level t.puts))) (lit_laws.twice (put_at t.puts k).lit) ∙ go _ refl
        where
          go : (b : Bool) → has same_lit (lits_of (up_to level t.puts)) (put_at t.puts k).lit ≡ b
              → has same_lit (lits_of (up_to level t.puts)) (put_at t.puts k).lit ≡ false
          go false e = e
          go true e =
              let v = place-up_to t.puts level (put_at t.puts k).lit e in
              let same : v.0 ≡ k = place-one t.puts v.0 k trail.single v.1 h v.2 in
              let low : (put_at t.puts k).level ≤ level = subst (λ (j : ℕ). (put_at t.puts j).level ≤ level) same v.3 in
              absurd (omega arith)

      -- a literal of the goal other than this one is negated where this one is forced
      forced_other : (l : Lit) (k : ℕ) → k < length t.puts → level < (put_at t.puts k).level
          → has same_lit (firsts same_lit (negations_at t.puts (point ∷ cut.below.items))) (opposite (put_at t.puts k).lit) ≡ true
          → forces same_lit opposite (has same_lit (lits_of (up_to level t.puts)))
          (firsts same_lit (negations_at t.puts (point ∷ cut.below.items))) l ≡ true
          → same_lit (opposite (put_at t.puts k).lit) l ≡ true
      forced_other l k h later inside forced =
          elim (or_cases _ _ (all-at lit_laws (λ m. same_lit m l || has same_lit (lits_of (up_to level t.puts)) (opposite m))
          (firsts same_lit (negations_at t.puts (point ∷ cut.below.items))) (opposite (put_at t.puts k).lit) forced inside)) [
            | inl e ↦ e
            | inr e ↦ contrary _ e (not_yet k h later)
          ]

      settled_at : (l : Lit) → forces same_lit opposite (has same_lit (lits_of (up_to level t.puts)))
          (firsts same_lit (negations_at t.puts (point ∷ cut.below.items))) l ≡ true
          → (b : Bool) → same_lit (opposite (put_at t.puts point).lit) l ≡ b → has same_lit (lits_of (up_to level t.puts)) l ≡ true
      settled_at l forced false e =
          contrary _ (forced_other l point is_cut.within (let at = is_cut.at_last in omega arith) point_in forced) e
      settled_at l forced true e =
          let low = is_cut.only w.0 w.1 in
          let s = forced_other l w.0 low.0 (omega (arith, w.2)) second_in forced in
          let same : opposite (put_at t.puts w.0).lit ≡ opposite (put_at t.puts point).lit = lit_laws.exact _ _ s ∙ sym (lit_laws.exact _ _ e) in
          let at : (put_at t.puts w.0).lit ≡ (put_at t.puts point).lit =
          sym (lit_laws.twice (put_at t.puts w.0).lit) ∙ ap opposite same ∙ lit_laws.twice (put_at t.puts point).lit in
          let one : w.0 ≡ point = place-one t.puts w.0 point trail.single low.0 is_cut.within at in
          let high : (put_at t.puts w.0).level ≡ t.last = ap (λ (j : ℕ). (put_at t.puts j).level) one ∙ is_cut.at_last in
          absurd (omega (arith, low.1))

-- the goal's variables are in the base
pub cut-over : (f : Formula) (places : List ℕ) → IsKnown f → IsTrail f.trail → AreWithin f.trail.puts places
    → IsOver (base_in f) (firsts same_lit (negations_at f.trail.puts places))
cut-over f places known trail within = each-of lit_laws (λ (l : Lit). is_over (base_in f) l ≡ true) (firsts same_lit (negations_at f.trail.puts places))
    (λ l h. over_at l (negation-of f.trail.puts places l (sym (has-firsts lit_laws (negations_at f.trail.puts places) l) ∙ h)))
  where
    over_at : (l : Lit) → (k : ℕ) × (has nat_eq places k ≡ true) × (opposite (put_at f.trail.puts k).lit ≡ l) → is_over (base_in f) l ≡ true
    over_at l w = known.nodes l
        (ap (λ (m : Lit). has same_node f.trail.nodes m.node) (sym w.2)
        ∙ trail.puts_over (put_at f.trail.puts w.0).lit (has-at f.trail.puts w.0 (within w.0 w.1)))

pub known-occurs : (f : Formula) (clause : List Lit) → IsOver (base_in f) clause
    → AllByRecursion (λ l. occurs same_lit opposite (clauses_of (base_in f) f.log.items) l ≡ true) clause
known-occurs f clause over = all-each (λ (l : Lit). is_over (base_in f) l ≡ true)
    (λ (l : Lit). occurs same_lit opposite (clauses_of (base_in f) f.log.items) l ≡ true) clause
    (λ l h. list_any-append (λ c. has same_lit c l || has same_lit c (opposite l)) (base_clauses (base_in f)) (map (λ (s : Step). s.clause) f.log.items)
    ∙ or_left _ _ h) over

pub second-next : (puts : List Put) (below : List ℕ) (level k next : ℕ) → IsSecond puts below level → has nat_eq below k ≡ true
    → (next ≡ level) ⊎ (next ≡ (put_at puts k).level) → IsSecond puts below next
second-next puts below level k next so_far inside (inl e) = subst (λ (n : ℕ). IsSecond puts below n) (sym e) so_far
second-next puts below level k next so_far inside (inr e) = inr (k, inside, sym e)

pub second-lower : (puts : List Put) (below : List ℕ) (last level : ℕ) → 1 ≤ last
    → ((k : ℕ) → has nat_eq below k ≡ true → (k < length puts) × ((put_at puts k).level < last)) → IsSecond puts below level → level < last
second-lower puts below last level h only (inl e) = omega arith
second-lower puts below last level h only (inr w) = let low = only w.0 w.1 in omega (arith, low.1, w.2)

-- lists that equal others may stand in their place
pub carried : (P : List Put → List ℕ → Type 0) (ps qs : List Put) (bs cs : List ℕ) → qs ≡ ps → cs ≡ bs → P ps bs → P qs cs
carried P ps qs bs cs e f p = subst (λ (zs : List ℕ). P qs zs) (sym f) (subst (λ (zs : List Put). P zs bs) (sym e) p)

pub lesson-is : (f : Formula) (cut : Cut) (point second : ℕ) (clause : List Lit) (hints : List Ref) → IsKnown f → IsTrail f.trail
    → IsCut f.trail point cut → 1 ≤ f.trail.last → clause ≡ firsts same_lit (negations_at f.trail.puts (point ∷ cut.below.items))
    → IsStep same_lit opposite (clause_named (clauses_known f)) clause hints → IsSecond f.trail.puts cut.below.items second
    → IsLesson f (record { step = record { clause = clause; hints = hints }; level = second })
lesson-is f cut point second clause hints known trail is_cut level e step is_second =
    subst (λ (c : List Lit). IsStep same_lit opposite (clause_named (clauses_known f)) c hints
    → IsLesson f (record { step = record { clause = c; hints = hints }; level = second })) (sym e) (λ step_here. record {
      trail = trail;
      over = over;
      learned = record {
        step = step_here;
        new = cut-new f.trail trail point cut is_cut (clauses_of (base_in f) f.log.items) (sym known.clauses) level
            (known-occurs f (firsts same_lit (negations_at f.trail.puts (point ∷ cut.below.items))) over);
      };
      lower = lower;
      quiet = λ low h. cut-quiet f.trail trail point cut is_cut second is_second lower low h;
    }) step
  where
    over : IsOver (base_in f) (firsts same_lit (negations_at f.trail.puts (point ∷ cut.below.items)))
    over = cut-over f (point ∷ cut.below.items) known trail (places-within f.trail trail point cut is_cut)

    lower : second < f.trail.last
    lower = second-lower f.trail.puts cut.below.items f.trail.last second level is_cut.only is_second
