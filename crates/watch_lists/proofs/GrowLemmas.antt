-- The engine that holds nothing, and one variable more.
use Rattle.std.proofs.Common.{◌≡◌, ℕ, zero, suc, ◌+◌, ◌≤◌, ◌^◌, false, List, [], ◌∷◌, ◌++◌, length, refl, sym, ◌∙◌, subst, arith, get_or, nat_eq}
use Rattle.std.specs.List.{All}
use Rattle.std.proofs.lemmas.List.{length-append}
use Rattle.std.proofs.lemmas.Map.Keys.{IsDistinct-from_apart}
use Rattle.unit_prop.proofs.Facts.{contrary}
use Rattle.watch_lists.specs.State.{list_at, HasWatch, IsWatch, IsEngine}
use Rattle.watch_lists.specs.Step.{IsEmpty, IsGrown}
use Rattle.watch_lists.specs.declared.lists.Watch.{Watch}
use Rattle.watch_lists.specs.declared.engine.Engine.{Engine}

pub engine-empty : (e : Engine) → IsEmpty e → IsEngine e
engine-empty e is = record {
  lists = rw (is.lists, is.truth) refl;
  small = rw is.truth (omega arith);
  few = rw is.clauses (omega arith);
  settled = rw (is.clauses, is.trail, is.levels) (λ i a. absurd (omega arith));
  watched = rw (is.clauses, is.pairs, is.lists, is.trail, is.levels, is.head) (record {
    most = omega arith;
    linked = λ i h. absurd (omega arith);
    watches = λ l k d h. absurd (omega arith);
    guards = λ i h. absurd (omega arith);
    bounds = λ k d h. absurd (omega arith);
  });
  trail = rw (is.clauses, is.truth, is.places, is.trail, is.reasons, is.levels, is.head) (record {
    reasons_all = refl;
    head_most = omega arith;
    levels_are = record {
      heads = λ k d h. absurd (omega arith);
      within = λ k d h. absurd (omega arith);
      rising = λ i j a b. absurd (omega arith);
      decided = λ k d h. absurd (omega arith);
      start_of = λ k h e. absurd (omega arith);
    };
    within = λ i l h. contrary _ h refl;
    even = refl;
    marks = λ l. refl;
    distinct = IsDistinct-from_apart nat_eq [] (λ i j d a b. absurd (omega arith));
    apart = λ l h. contrary _ h refl;
    places_all = refl;
    placed = λ k h. absurd (omega arith);
    justified = λ k h. absurd (omega arith);
  });
}

-- places behind the end are as the default says
get_or-behind : {X : Type 0} (xs : List X) (a d : X) (k : ℕ) → a ≡ d → get_or (xs ++ a ∷ a ∷ []) k d ≡ get_or xs k d
get_or-behind [] a d zero e = e
get_or-behind [] a d (suc zero) e = e
get_or-behind [] a d (suc (suc k)) e = refl
get_or-behind (x ∷ xs) a d zero e = refl
get_or-behind (x ∷ xs) a d (suc k) e = get_or-behind xs a d k e

pub engine-grown : (old new : Engine) → IsEngine old → IsGrown old new → length old.truth.items + 2 ≤ 2 ^ 32 → IsEngine new
engine-grown old new engine grown room = record {
  lists = rw (grown.lists, grown.truth) (omega (arith, length-append old.lists ([] ∷ [] ∷ []), size, engine.lists));
  small = rw grown.truth (omega (arith, size));
  few = rw grown.clauses engine.few;
  settled = rw (grown.clauses, grown.trail, grown.levels) engine.settled;
  watched = rw (grown.clauses, grown.pairs, grown.lists, grown.trail, grown.levels, grown.head) (record {
    most = engine.watched.most;
    linked = λ i h. let l = engine.watched.linked i h in record { first = subst (λ (z : List Watch). HasWatch z 0 i) (sym (kept _)) l.first; second = subst (λ (z : List Watch). HasWatch z 0 i) (sym (kept _)) l.second };
    watches = λ l. subst (λ (z : List Watch). All (IsWatch old.clauses (length old.pairs.items) l) z) (sym (kept l)) (engine.watched.watches l);
    guards = engine.watched.guards;
    bounds = engine.watched.bounds;
  });
  trail = rw (grown.clauses, grown.truth, grown.places, grown.trail, grown.reasons, grown.levels, grown.head) (record {
    reasons_all = engine.trail.reasons_all;
    head_most = engine.trail.head_most;
    levels_are = engine.trail.levels_are;
    within = λ i l h. let b = engine.trail.within i l h in omega (arith, size);
    even = let e = engine.trail.even in omega (arith, size);
    marks = λ l. get_or-behind old.truth.items false false l refl ∙ engine.trail.marks l;
    distinct = engine.trail.distinct;
    apart = engine.trail.apart;
    places_all = omega (arith, length-append old.places.items (0 ∷ 0 ∷ []), size, engine.trail.places_all);
    placed = λ k h. get_or-behind old.places.items 0 0 _ refl ∙ engine.trail.placed k h;
    justified = engine.trail.justified;
  });
}
  where
    size : length (old.truth.items ++ false ∷ false ∷ []) ≡ length old.truth.items + 2
    size = length-append old.truth.items (false ∷ false ∷ [])

    kept : (l : ℕ) → list_at (old.lists ++ [] ∷ [] ∷ []) l ≡ list_at old.lists l
    kept l = get_or-behind old.lists [] [] l refl
