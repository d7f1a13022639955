-- The walk from a conflict back to its first unique implication point.
use Rattle.std.proofs.Common.{◌≡◌, ◌≢◌, ◌<◌, ◌≤◌, ◌+◌, ◌-◌, ℕ, zero, suc, arith, Bool, true, false, ◌||◌, ◌⊎◌, inl, inr, List, [], ◌∷◌, nat_eq, take, length, Option, Some, None, refl, sym, ap, subst, ◌∙◌}
use Rattle.std.specs.Prelude.{IsSome}
use Rattle.std.specs.List.{list_any}
use Rattle.std.proofs.Math.Nat.{eq-or-lt_of_le}
use Rattle.std.proofs.lemmas.Bool.{or_cases, or_left, or_right}
use Rattle.lits.specs.Clause.{has, no_repeat}
use Rattle.lits.specs.Same.{same_lit, opposite}
use Rattle.lits.specs.declared.literal.Lit.{Lit}
use Rattle.lits.proofs.Facts.{lit_laws}
use Rattle.unit_prop.proofs.Facts.{contrary, all-true, all-at}
use Rattle.unit_prop.specs.Closure.{is_negated}
use Rattle.watch_lists.specs.Trail.{TrailState, IsTrail, IsGround, IsConflict, put_at, clause_at, lits_of, up_to}
use Rattle.watch_lists.specs.declared.put.Put.{Put}
use Rattle.solver_watch.specs.declared.cut.Cut.{Cut}
use Rattle.solver_watch.specs.Marked.{is_marked, open_below, Keeps, AreMet, IsResolved, IsBlank, IsCounted, IsMarking, IsTraced, IsWalking, IsCut}
use Rattle.solver_watch.proofs.TrailLemmas.{has-at, place-of, place-one, place-before, up_to-at}
use Rattle.solver_watch.proofs.CountLemmas.{true-same, open-none, open-some, open-more, open-grow}
use Rattle.solver_watch.proofs.MarkedLemmas.{met-keeps}

pub areMet-keeps : (puts : List Put) (old new : List Bool) (clause : List Lit) → Keeps old new → AreMet puts old clause → AreMet puts new clause
areMet-keeps puts old new clause keeps met l h = met-keeps puts old new (opposite l) keeps (met l h)

pub resolved-keeps : (t : TrailState) (old new : List Bool) (k : ℕ) → Keeps old new → IsResolved t old k → IsResolved t new k
resolved-keeps t old new k keeps r = record {
  by = r.by;
  forced = r.forced;
  met = areMet-keeps t.puts old new (clause_at t.clauses r.by) keeps r.met;
}

-- nothing is marked: nothing is counted
pub blank-counted : (puts : List Put) (level : ℕ) (cut : Cut) → IsBlank (length puts) cut → IsCounted puts level cut
blank-counted puts level cut blank = record {
  room = blank.room;
  all = λ k h m. contrary _ m (blank.none k);
  only = λ k h. let e : false ≡ true = sym (ap (λ (xs : List ℕ). has nat_eq xs k) blank.below) ∙ h in cc;
  once = ap (no_repeat nat_eq) blank.below;
  count = blank.open_none ∙ sym (nothing (length puts));
}
  where
    nothing : (n : ℕ) → open_below puts level cut.marks n ≡ 0
    nothing zero = refl
    nothing (suc n) = rw (nothing n, blank.none n) refl

-- the ground of a place
pub ground-of : (t : TrailState) (k by : ℕ) → IsTrail t → k < length t.puts → (put_at t.puts k).by ≡ Some by
    → IsGround t.clauses (take k t.puts) (put_at t.puts k).lit (Some by)
ground-of t k by trail h e = subst (λ (o : Option ℕ). IsGround t.clauses (take k t.puts) (put_at t.puts k).lit o) e (trail.grounds k h)

-- a literal whose negation is in a reason stands before, but for the one that was forced
pub reason-before : (t : TrailState) (k by j : ℕ) → IsTrail t → k < length t.puts → (put_at t.puts k).by ≡ Some by → j < length t.puts
    → has same_lit (clause_at t.clauses by) (opposite (put_at t.puts j).lit) ≡ true → j < k
reason-before t k by j trail hk e hj inside =
    let ground = ground-of t k by trail hk e in
    go (or_cases _ _ (all-at lit_laws (λ m. same_lit m (put_at t.puts k).lit || has same_lit (lits_of (take k t.puts)) (opposite m))
    (clause_at t.clauses by) (opposite (put_at t.puts j).lit) ground.2 inside))
  where
    go : (same_lit (opposite (put_at t.puts j).lit) (put_at t.puts k).lit ≡ true)
        ⊎ (has same_lit (lits_of (take k t.puts)) (opposite (opposite (put_at t.puts j).lit)) ≡ true) → j < k
    go (inl s) =
        let at : opposite (put_at t.puts j).lit ≡ (put_at t.puts k).lit = lit_laws.exact _ _ s in
        contrary _ (ap (has same_lit (lits_of t.puts)) at ∙ has-at t.puts k hk) (trail.consistent.apart (put_at t.puts j).lit (has-at t.puts j hj))
    go (inr h) =
        let w = place-before t.puts k (put_at t.puts j).lit (ap (has same_lit (lits_of (take k t.puts))) (sym (lit_laws.twice (put_at t.puts j).lit)) ∙ h) in
        let same : j ≡ w.0 = place-one t.puts j w.0 trail.single hj w.2 (sym w.3) in
        omega (arith, w.1)

pub traced : (t : TrailState) (k by : ℕ) (old new : Cut) → IsTrail t → k < length t.puts → (put_at t.puts k).by ≡ Some by
    → IsMarking t (clause_at t.clauses by) old new → IsTraced t k old new
traced t k by old new trail h e marking = record {
  counted = marking.counted;
  resolved = record { by = by; forced = e; met = marking.met };
  keeps = marking.keeps;
  fresh = λ j hj m. elim (marking.fresh j hj m) [ inl o ↦ inl o | inr i ↦ inr (reason-before t k by j trail h e hj i) ];
}

-- a conflict at a level above the first meets something of that level
pub conflict-open : (t : TrailState) (i : ℕ) (cut : Cut) → IsTrail t → 1 ≤ t.last → i < length t.clauses → IsConflict t.puts (clause_at t.clauses i)
    → AreMet t.puts cut.marks (clause_at t.clauses i) → 1 ≤ open_below t.puts t.last cut.marks (length t.puts)
conflict-open t i cut trail level within conflict met = go (open_below t.puts t.last cut.marks (length t.puts)) refl
  where
    low : (l : Lit) → open_below t.puts t.last cut.marks (length t.puts) ≡ 0 → has same_lit (clause_at t.clauses i) l ≡ true
        → has same_lit (lits_of (up_to (t.last - 1) t.puts)) (opposite l) ≡ true
    low l e h =
        let w = place-of t.puts (opposite l) (all-at lit_laws (λ m. has same_lit (lits_of t.puts) (opposite m)) (clause_at t.clauses i) l conflict h) in
        let apart : nat_eq (put_at t.puts w.0).level t.last ≡ false =
        open-none t.puts t.last cut.marks (length t.puts) w.0 e w.1 (met l h w.0 w.1 w.2) in
        let most : (put_at t.puts w.0).level ≤ t.last = trail.most w.0 w.1 in
        let ne : (put_at t.puts w.0).level ≢ t.last = (λ s. contrary _ (true-same _ _ s) apart) in
        let less : (put_at t.puts w.0).level ≤ t.last - 1 = omega arith in
        subst (λ (m : Lit). has same_lit (lits_of (up_to (t.last - 1) t.puts)) m ≡ true) w.2 (up_to-at t.puts (t.last - 1) w.0 w.1 less)

    any-at : (p : List Lit → Bool) (cs : List (List Lit)) (n : ℕ) → n < length cs → p (clause_at cs n) ≡ true → list_any p cs ≡ true
    any-at p [] n h e = absurd (omega arith)
    any-at p (c ∷ cs) zero h e = or_left _ _ e
    any-at p (c ∷ cs) (suc n) h e = or_right (p c) _ (any-at p cs n (omega arith) e)

    go : (n : ℕ) → open_below t.puts t.last cut.marks (length t.puts) ≡ n → 1 ≤ open_below t.puts t.last cut.marks (length t.puts)
    go (suc n) e = omega arith
    go zero e =
        let negated : is_negated opposite (has same_lit (lits_of (up_to (t.last - 1) t.puts))) (clause_at t.clauses i) ≡ true =
        all-true lit_laws (λ m. has same_lit (lits_of (up_to (t.last - 1) t.puts)) (opposite m)) (clause_at t.clauses i) (λ l h. low l e h) in
        absurd ((trail.complete (t.last - 1) (omega arith)).1
        (inl (any-at (is_negated opposite (has same_lit (lits_of (up_to (t.last - 1) t.puts)))) t.clauses i within negated)))

pub walking-start : (t : TrailState) (i : ℕ) (blank cut : Cut) → IsTrail t → 1 ≤ t.last → i < length t.clauses → IsConflict t.puts (clause_at t.clauses i)
    → IsMarking t (clause_at t.clauses i) blank cut → IsWalking t 0 (length t.puts) cut
walking-start t i blank cut trail level within conflict marking = record {
  counted = marking.counted;
  resolved = λ k from h. absurd (omega arith);
  count = (let c = marking.counted.count in omega arith);
  left = conflict-open t i cut trail level within conflict marking.met;
}

module _ (t : TrailState) (trail : IsTrail t) (cut : Cut) (passed place : ℕ) (within : place < length t.puts)
    (walking : IsWalking t passed (place + 1) cut) where
  above : (k : ℕ) → place ≤ k → (k ≡ place) ⊎ (place + 1 ≤ k)
  above k h = elim (eq-or-lt_of_le h) [ inl e ↦ inl (sym e) | inr l ↦ inr (omega arith) ]

  -- the place isn't marked
  pub walking-skip : is_marked cut.marks place ≡ false → IsWalking t passed place cut
  walking-skip none = record {
    counted = walking.counted;
    resolved = λ k from h m. resolved_at k h m (above k from);
    count = (let c = walking.count in let e = same in omega arith);
    left = (let l = walking.left in let e = same in omega arith);
  }
    where
      same : open_below t.puts t.last cut.marks (place + 1) ≡ open_below t.puts t.last cut.marks place
      same = let z : place + 1 ≡ suc place = omega arith in rw (z, none) (omega arith)

      resolved_at : (k : ℕ) → k < length t.puts → is_marked cut.marks k ≡ true → (k ≡ place) ⊎ (place + 1 ≤ k) → IsResolved t cut.marks k
      resolved_at k h m (inl e) = contrary _ (ap (is_marked cut.marks) (sym e) ∙ m) none
      resolved_at k h m (inr l) = walking.resolved k l h m

  at_level : is_marked cut.marks place ≡ true → (put_at t.puts place).level ≡ t.last
  at_level m =
      let w = open-some t.puts t.last cut.marks (place + 1) walking.left in
      let up : (put_at t.puts w.0).level ≤ (put_at t.puts place).level = trail.rising w.0 place (omega (arith, w.1)) within in
      let most = trail.most place within in
      omega (arith, w.3)

  one-more : is_marked cut.marks place ≡ true
      → open_below t.puts t.last cut.marks (place + 1) ≡ open_below t.puts t.last cut.marks place + 1
  one-more m =
      let z : place + 1 ≡ suc place = omega arith in
      let l : nat_eq (put_at t.puts place).level t.last ≡ true = true-same _ _ (at_level m) in
      rw (z, m, l) refl

  -- it is the last one of its level
  pub walking-point : is_marked cut.marks place ≡ true → passed + 1 ≡ cut.count → IsCut t place cut
  walking-point m e = record {
    room = walking.counted.room;
    within = within;
    marked = m;
    at_last = at_level m;
    resolved = λ k from h mk. walking.resolved k (omega arith) h mk;
    lower = λ k h mk. walking.counted.all k (omega arith) mk (open-none t.puts t.last cut.marks place k none h mk);
    only = λ k h. only_at k (walking.counted.only k h);
    once = walking.counted.once;
  }
    where
      none : open_below t.puts t.last cut.marks place ≡ 0
      none = let c = walking.count in let o = one-more m in omega arith

      only_at : (k : ℕ) → (k < length t.puts) × (is_marked cut.marks k ≡ true) × (nat_eq (put_at t.puts k).level t.last ≡ false)
          → (k < length t.puts) × ((put_at t.puts k).level < t.last)
      only_at k w =
          let most = trail.most k w.0 in
          let ne : (put_at t.puts k).level ≢ t.last = (λ s. contrary _ (true-same _ _ s) w.2) in
          (w.0, omega arith)

  others-left : is_marked cut.marks place ≡ true → passed + 1 ≢ cut.count → 1 ≤ open_below t.puts t.last cut.marks place
  others-left m ne = let c = walking.count in let o = one-more m in omega arith

  -- no more are passed than are marked
  pub walking-most : passed + 1 ≤ cut.count
  walking-most = let c = walking.count in let l = walking.left in omega arith

  -- another place of the level is marked before it: it isn't the decision
  pub walking-forced : is_marked cut.marks place ≡ true → passed + 1 ≢ cut.count → IsSome (put_at t.puts place).by
  walking-forced m ne = go (put_at t.puts place).by refl
    where
      w : (k : ℕ) × (k < place) × (is_marked cut.marks k ≡ true) × ((put_at t.puts k).level ≡ t.last)
      w = open-some t.puts t.last cut.marks place (others-left m ne)

      go : (o : Option ℕ) → (put_at t.puts place).by ≡ o → IsSome o
      go (Some by) e = refl
      go None e =
          let led = trail.led place within e in
          let less : (put_at t.puts w.0).level < (put_at t.puts place).level = led.1 w.0 w.1 in
          let at = at_level m in
          absurd (omega (arith, w.3))

  pub walking-next : (new : Cut) → is_marked cut.marks place ≡ true → passed + 1 ≢ cut.count → IsTraced t place cut new
      → IsWalking t (passed + 1) place new
  walking-next new m ne tr = record {
    counted = tr.counted;
    resolved = λ k from h mk. resolved_at k h mk (above k from);
    count =
        (let old = walking.counted.count in let now = tr.counted.count in let c = walking.count in let o = one-more m in
        let g = grown in omega arith);
    left = (let l = others-left m ne in let more = open-more t.puts t.last cut.marks new.marks place tr.keeps in omega arith);
  }
    where
      same_at : (k : ℕ) → place ≤ k → k < length t.puts → is_marked new.marks k ≡ is_marked cut.marks k
      same_at k from h = go (is_marked cut.marks k) (is_marked new.marks k) refl refl
        where
          go : (a b : Bool) → is_marked cut.marks k ≡ a → is_marked new.marks k ≡ b → is_marked new.marks k ≡ is_marked cut.marks k
          go true b e f = tr.keeps k e ∙ sym e
          go false false e f = f ∙ sym e
          go false true e f = elim (tr.fresh k h f) [ inl o ↦ contrary _ o e | inr l ↦ absurd (omega arith) ]

      grown : open_below t.puts t.last new.marks (length t.puts) + open_below t.puts t.last cut.marks place
          ≡ open_below t.puts t.last cut.marks (length t.puts) + open_below t.puts t.last new.marks place
      grown =
          let z : (length t.puts - place) + place ≡ length t.puts = omega arith in
          rw z at (open-grow t.puts t.last cut.marks new.marks place (length t.puts - place) (λ k from h. same_at k from (omega arith)))

      resolved_at : (k : ℕ) → k < length t.puts → is_marked new.marks k ≡ true → (k ≡ place) ⊎ (place + 1 ≤ k) → IsResolved t new.marks k
      resolved_at k h mk (inl e) = subst (λ (j : ℕ). IsResolved t new.marks j) (sym e) tr.resolved
      resolved_at k h mk (inr l) =
          resolved-keeps t cut.marks new.marks k tr.keeps (walking.resolved k l h (sym (same_at k (omega arith) h) ∙ mk))
