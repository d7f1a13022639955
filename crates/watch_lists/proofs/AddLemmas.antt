-- A clause is added.
use Rattle.std.proofs.Common.{◌≡◌, ◌≢◌, ℕ, ◌<◌, ◌^◌, true, List, [], ◌∷◌, ◌++◌, length, refl, sym, subst, arith, get_or, take, nat_eq, ◌⊎◌, inl, inr, Option, Some, None}
use Rattle.std.specs.List.{All}
use Rattle.std.proofs.lemmas.List.{get_or_append_left, get_or_push, length_push, get_or_past}
use Rattle.std.proofs.lemmas.Bool.{cases_lt}
use Rattle.lits.specs.Clause.{has}
use Rattle.unit_prop.proofs.Facts.{contrary}
use Rattle.watch_lists.specs.State.{IsWatch, IsJustified, AsksNothing, IsEngine}
use Rattle.watch_lists.specs.Step.{IsAdded}
use Rattle.watch_lists.specs.declared.engine.Engine.{Engine}
use Rattle.watch_lists.specs.declared.lists.Watch.{Watch}
use Rattle.watch_lists.proofs.WatchLemmas.{decide}

pub engine-added : (old new : Engine) (clause : List ℕ) → IsEngine old → IsAdded old clause new
    → ((l : ℕ) → has nat_eq clause l ≡ true → l < length old.truth.items) → length old.clauses < 2 ^ 32
    → All (λ v. AsksNothing (take v.start old.trail.items) clause) old.levels.items → IsEngine new
engine-added old new clause engine like within room settled = record {
  lists = rw (like.lists, like.truth) engine.lists;
  small = rw like.truth engine.small;
  few = rw like.clauses (omega (arith, length_push old.clauses clause));
  settled = rw (like.clauses, like.trail, like.levels) (λ i a. elim (decide i (length old.clauses)) [
    | inr before ↦ let h : i < length old.clauses = omega (arith, length_push old.clauses clause) in rw (kept i h) (engine.settled i h)
    | inl last ↦ rw (get_or_push old.clauses clause [] i (sym last)) settled
  ]);
  watched = rw (like.clauses, like.pairs, like.lists, like.trail, like.levels, like.head) (record {
    most = let m = engine.watched.most in omega (arith, length_push old.clauses clause);
    linked = engine.watched.linked;
    watches = λ l k d h. more_watch l _ (engine.watched.watches l k d h);
    guards = λ i h. let m = engine.watched.most in rw (kept i (omega arith)) (engine.watched.guards i h);
    bounds = λ k d h i g. let m = engine.watched.most in rw (kept i (omega arith)) (engine.watched.bounds k d h i g);
  });
  trail = rw (like.clauses, like.truth, like.places, like.trail, like.reasons, like.levels, like.head) (record {
    reasons_all = engine.trail.reasons_all;
    head_most = engine.trail.head_most;
    levels_are = engine.trail.levels_are;
    within = λ i l h. below i l h (decide i (length old.clauses));
    even = engine.trail.even;
    distinct = engine.trail.distinct;
    marks = engine.trail.marks;
    apart = engine.trail.apart;
    places_all = engine.trail.places_all;
    placed = engine.trail.placed;
    justified = λ k h. more (take k old.trail.items) (get_or old.trail.items k 0) (get_or old.reasons.items k None) (engine.trail.justified k h);
  });
}
  where
    kept : (i : ℕ) → i < length old.clauses → get_or (old.clauses ++ clause ∷ []) i [] ≡ get_or old.clauses i []
    kept i h = get_or_append_left old.clauses (clause ∷ []) [] i h

    below : (i l : ℕ) → has nat_eq (get_or (old.clauses ++ clause ∷ []) i []) l ≡ true → (i ≡ length old.clauses) ⊎ (i ≢ length old.clauses) → l < length old.truth.items
    below i l h (inl last) = within l (subst (λ (c : List ℕ). has nat_eq c l ≡ true) (get_or_push old.clauses clause [] i (sym last)) h)
    below i l h (inr other) = elim (cases_lt i (length old.clauses)) [
      | inl lt ↦ engine.trail.within i l (subst (λ (c : List ℕ). has nat_eq c l ≡ true) (kept i lt) h)
      | inr past ↦ contrary _ (subst (λ (c : List ℕ). has nat_eq c l ≡ true) (get_or_past (old.clauses ++ clause ∷ []) i [] (omega (arith, length_push old.clauses clause))) h) refl
    ]

    more_watch : (l : ℕ) (w : Watch) → IsWatch old.clauses (length old.pairs.items) l w → IsWatch (old.clauses ++ clause ∷ []) (length old.pairs.items) l w
    more_watch l w is = let m = engine.watched.most in let g = is.guarded in record {
      guarded = is.guarded;
      inside = rw (kept w.clause (omega arith)) is.inside;
      only = λ e k h. is.only e k (subst (λ (c : List ℕ). has nat_eq c k ≡ true) (kept w.clause (omega arith)) h);
    }

    more : (before : List ℕ) (lit : ℕ) (by : Option ℕ) → IsJustified old.clauses before lit by → IsJustified (old.clauses ++ clause ∷ []) before lit by
    more before lit None j = tt
    more before lit (Some by) j = (omega (arith, j.0, length_push old.clauses clause), rw (kept by j.0) j.1, rw (kept by j.0) j.2)
