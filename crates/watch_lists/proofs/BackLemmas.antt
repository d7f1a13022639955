-- Levels begin and are given up.
use Rattle.std.proofs.Common.{◌≡◌, ℕ, ◌+◌, ◌%◌, ◌<◌, ◌≤◌, Bool, true, false, ◌||◌, List, [], ◌∷◌, ◌++◌, length, refl, sym, ap, ◌∙◌, subst, arith, get_or, take, drop, nat_eq, inl, inr, Option, None}
use Rattle.std.specs.Prelude.{not, ◌&&◌}
use Rattle.std.proofs.lemmas.List.{take_all, take-take, get_or-take, length-take-le, length_push, get_or_append_left, get_or_push, take-append-le, take-append-drop, get_or-drop, length-drop, length-set, get_or_default}
use Rattle.std.proofs.lemmas.List.Elements.{All-push, All-take}
use Rattle.std.proofs.lemmas.Map.Keys.{IsDistinct-from_apart, apart_from_distinct}
use Rattle.std.proofs.lemmas.Bool.{or_right, cases_lt}
use Rattle.lits.specs.Clause.{has}
use Rattle.unit_prop.proofs.Facts.{contrary}
use Rattle.watch_lists.specs.Codes.{flip}
use Rattle.watch_lists.specs.State.{codes_at, AreGuards, AreWatched, AsksNothing, AreLevels, IsEngine, no_level, level_at}
use Rattle.watch_lists.specs.Step.{IsPut, IsRaised, IsCut}
use Rattle.watch_lists.specs.declared.engine.Level.{Level}
use Rattle.watch_lists.specs.declared.engine.Engine.{Engine}
use Rattle.watch_lists.proofs.FlipLemmas.{is_literal-flip}
use Rattle.watch_lists.proofs.WatchLemmas.{decide}
use Rattle.watch_lists.proofs.TrailLemmas.{has-append, starts-most, heads-most, trail-put, watched-put, settled-put}
use Rattle.watch_lists.proofs.LevelLemmas.{place_of, apart-level}

-- a decision begins a level
pub levels-decide : (levels : List Level) (reasons : List (Option ℕ)) (s h : ℕ) → AreLevels levels reasons → s ≡ length reasons → h ≤ s
    → AreLevels (levels ++ record { start = s; head = h } ∷ []) (reasons ++ None ∷ [])
levels-decide levels reasons s h are is most = record {
  heads = All-push (λ (v : Level). v.head ≤ v.start) levels _ are.heads most;
  within = All-push (λ (v : Level). v.start < length (reasons ++ None ∷ [])) levels _ (λ k d i. let b = are.within k d i in omega (arith, longer)) (omega (arith, longer));
  rising = λ i j a b. elim (decide j (length levels)) [
    | inr before ↦ let c : j < length levels = omega (arith, length_push levels (record { start = s; head = h })) in rw (old i (omega arith), old j c) (are.rising i j a c)
    | inl last ↦ let c : i < length levels = omega arith in
        rw (old i c, get_or_push levels (record { start = s; head = h }) no_level j (sym last)) (let r = are.within i no_level c in omega arith)
  ];
  decided = All-push (λ (v : Level). get_or (reasons ++ None ∷ []) v.start None ≡ None) levels _
      (λ k d i. get_or_append_left reasons (None ∷ []) None (get_or levels k d).start (are.within k d i) ∙ are.decided k d i)
      (get_or_push reasons None None s (sym is));
  start_of = λ k i e. elim (decide k (length reasons)) [
    | inr before ↦
        let b : k < length reasons = omega (arith, longer) in
        let w = are.start_of k b (sym (get_or_append_left reasons (None ∷ []) None k b) ∙ e) in
        (w.0, let c = w.1 in omega (arith, length_push levels (record { start = s; head = h })), ap (λ (v : Level). v.start) (old w.0 w.1) ∙ w.2)
    | inl last ↦ (length levels, omega (arith, length_push levels (record { start = s; head = h })), ap (λ (v : Level). v.start) (get_or_push levels (record { start = s; head = h }) no_level (length levels) refl) ∙ (is ∙ sym last))
  ];
}
  where
    longer : length (reasons ++ None ∷ []) ≡ length reasons + 1
    longer = length_push reasons None

    old : (i : ℕ) → i < length levels → level_at (levels ++ (record { start = s; head = h }) ∷ []) i ≡ level_at levels i
    old i lt = get_or_append_left levels ((record { start = s; head = h }) ∷ []) no_level i lt

pub engine-decided : (old mid new : Engine) (x s : ℕ) → IsEngine old → IsPut old x None mid → s ≡ length old.trail.items
    → IsRaised mid (record { start = s; head = old.head }) new → x < length old.truth.items
    → has nat_eq old.trail.items x ≡ false → has nat_eq old.trail.items (flip x) ≡ false
    → ((i : ℕ) → i < length old.clauses → AsksNothing old.trail.items (codes_at old.clauses i)) → IsEngine new
engine-decided old mid new x s engine put is raised within fresh free settled = record {
  lists = rw (raised.lists, raised.truth, put.lists, put.truth) (engine.lists ∙ sym (length-set old.truth.items x true));
  small = rw (raised.truth, put.truth, length-set old.truth.items x true) engine.small;
  few = rw (raised.clauses, put.clauses) engine.few;
  settled = rw (raised.clauses, raised.trail, raised.levels, put.clauses, put.trail, put.levels) (λ i a.
      All-push (λ (v : Level). AsksNothing (take v.start (old.trail.items ++ x ∷ [])) (codes_at old.clauses i)) old.levels.items (record { start = s; head = old.head })
      (settled-put old.clauses old.trail.items old.levels.items engine.settled (starts-most engine.trail) x i a)
      (rw whole (settled i a)));
  watched = rw (raised.clauses, raised.pairs, raised.lists, raised.trail, raised.levels, raised.head, put.clauses, put.pairs, put.lists, put.trail, put.levels, put.head) (record {
    most = more.most;
    linked = more.linked;
    watches = more.watches;
    guards = more.guards;
    bounds = All-push (λ (v : Level). AreGuards old.clauses old.pairs.items (take v.head (old.trail.items ++ x ∷ [])) (take v.start (old.trail.items ++ x ∷ []))) old.levels.items (record { start = s; head = old.head }) more.bounds
        (rw (whole, take-append-le old.head old.trail.items (x ∷ []) engine.trail.head_most) engine.watched.guards);
  });
  trail = rw (raised.clauses, raised.truth, raised.places, raised.trail, raised.reasons, raised.levels, raised.head, put.clauses, put.truth, put.places, put.trail, put.reasons, put.levels, put.head)
      (trail-put engine.trail x None (old.levels.items ++ (record { start = s; head = old.head }) ∷ [])
      (levels-decide old.levels.items old.reasons.items s old.head engine.trail.levels_are (is ∙ sym engine.trail.reasons_all) (omega (arith, engine.trail.head_most)))
      within fresh free tt);
}
  where
    whole : take s (old.trail.items ++ x ∷ []) ≡ old.trail.items
    whole = take-append-le s old.trail.items (x ∷ []) (omega arith) ∙ take_all s old.trail.items (omega arith)

    more : AreWatched old.clauses old.pairs.items old.lists (old.trail.items ++ x ∷ []) old.levels.items old.head
    more = watched-put engine.watched engine.trail.head_most (starts-most engine.trail) (heads-most engine.trail) x

-- the levels that stay
pub levels-cut : (levels : List Level) (reasons : List (Option ℕ)) (count start : ℕ) → AreLevels levels reasons → count < length levels
    → start ≡ (level_at levels count).start → AreLevels (take count levels) (take start reasons)
levels-cut levels reasons count start are within is = record {
  heads = All-take (λ (v : Level). v.head ≤ v.start) count levels are.heads;
  within = λ k d h. let c = inside k h in rw (get_or-take count levels k d c, shorter) (below k d c);
  rising = λ i j a b. let c = inside j b in rw (get_or-take count levels i no_level (omega arith), get_or-take count levels j no_level c) (are.rising i j a (omega arith));
  decided = λ k d h. let c = inside k h in
      rw (get_or-take count levels k d c, get_or-take start reasons (get_or levels k d).start None (below k d c)) (are.decided k d (omega arith));
  start_of = λ k h e.
      let b : k < start = omega (arith, shorter) in
      let w = are.start_of k (omega (arith, least)) (sym (get_or-take start reasons k None b) ∙ e) in
      let c : w.0 < count = elim (cases_lt w.0 count) [
        | inl lt ↦ lt
        | inr past ↦ elim (decide w.0 count) [
          | inl same ↦ let f : (level_at levels count).start ≡ k = subst (λ (i : ℕ). (level_at levels i).start ≡ k) same w.2 in absurd (omega arith)
          | inr apart ↦ let r = are.rising count w.0 (omega arith) w.1 in let f = w.2 in absurd (omega arith)
        ]
      ] in
      (w.0, omega (arith, length-take-le count levels (omega arith)), ap (λ (v : Level). v.start) (get_or-take count levels w.0 no_level c) ∙ w.2);
}
  where
    least : start < length reasons
    least = omega (arith, are.within count no_level within)

    shorter : length (take start reasons) ≡ start
    shorter = length-take-le start reasons (omega (arith, least))

    inside : (k : ℕ) → k < length (take count levels) → k < count
    inside k h = omega (arith, length-take-le count levels (omega arith))

    below : (k : ℕ) (d : Level) → k < count → (get_or levels k d).start < start
    below k d c = rw (get_or_default levels k d no_level (omega arith)) (let r = are.rising k count c within in omega arith)

pub engine-cut : (old new : Engine) (count : ℕ) (level : Level) → IsEngine old → IsCut old count level new → count < length old.levels.items
    → level ≡ level_at old.levels.items count → IsEngine new
engine-cut old new count level engine cut within is = record {
  lists = rw cut.lists (engine.lists ∙ sym cut.size);
  small = rw cut.size engine.small;
  few = rw cut.clauses engine.few;
  settled = rw (cut.clauses, cut.trail, cut.levels) (λ i a k d h.
      let c = inside k h in
      rw (get_or-take count old.levels.items k d c, short k d c) (engine.settled i a k d (omega arith)));
  watched = rw (cut.clauses, cut.pairs, cut.lists, cut.trail, cut.levels, cut.head) (record {
    most = engine.watched.most;
    linked = engine.watched.linked;
    watches = engine.watched.watches;
    guards = rw (take-take level.head level.start old.trail.items (omega (arith, behind)), is) (engine.watched.bounds count no_level within);
    bounds = λ k d h.
        let c = inside k h in
        rw (get_or-take count old.levels.items k d c, short k d c, short_head k d c) (engine.watched.bounds k d (omega arith));
  });
  trail = rw (cut.clauses, cut.places, cut.trail, cut.reasons, cut.levels, cut.head) (record {
    reasons_all = same_length ∙ sym trail_length;
    head_most = omega (arith, trail_length, behind);
    levels_are = levels-cut old.levels.items old.reasons.items count level.start engine.trail.levels_are within (ap (λ (v : Level). v.start) is);
    within = λ i l h. subst (λ (n : ℕ). l < n) (sym cut.size) (engine.trail.within i l h);
    even = subst (λ (n : ℕ). n % 2 ≡ 0) (sym cut.size) engine.trail.even;
    distinct = IsDistinct-from_apart nat_eq (take level.start old.trail.items) (λ i j d a b.
        let c : j < level.start = omega (arith, trail_length) in
        rw (get_or-take level.start old.trail.items i d (omega arith), get_or-take level.start old.trail.items j d c) (apart_from_distinct nat_eq old.trail.items i j d engine.trail.distinct a (omega (arith, most))));
    marks = λ l. cut.marks l ∙ (ap (λ (b : Bool). b && not (has nat_eq (drop level.start old.trail.items) l)) (engine.trail.marks l) ∙ kept l);
    apart = apart-level engine.trail level.start most;
    places_all = engine.trail.places_all ∙ sym cut.size;
    placed = λ k h. let c : k < level.start = omega (arith, trail_length) in rw (get_or-take level.start old.trail.items k 0 c) (engine.trail.placed k (omega (arith, most)));
    justified = λ k h. let c : k < level.start = omega (arith, trail_length) in
        rw (take-take k level.start old.trail.items (omega arith), get_or-take level.start old.trail.items k 0 c, get_or-take level.start old.reasons.items k None c) (engine.trail.justified k (omega (arith, most)));
  });
}
  where
    behind : level.head ≤ level.start
    behind = subst (λ (v : Level). v.head ≤ v.start) (sym is) (engine.trail.levels_are.heads count no_level within)

    most : level.start ≤ length old.trail.items
    most = subst (λ (v : Level). v.start ≤ length old.trail.items) (sym is) (starts-most engine.trail count no_level within)

    trail_length : length (take level.start old.trail.items) ≡ level.start
    trail_length = length-take-le level.start old.trail.items most

    same_length : length (take level.start old.reasons.items) ≡ level.start
    same_length = length-take-le level.start old.reasons.items (omega (arith, most, engine.trail.reasons_all))

    inside : (k : ℕ) → k < length (take count old.levels.items) → k < count
    inside k h = omega (arith, length-take-le count old.levels.items (omega arith))

    below : (k : ℕ) (d : Level) → k < count → (get_or old.levels.items k d).start ≤ level.start
    below k d c = rw (get_or_default old.levels.items k d no_level (omega arith), is) (let r = engine.trail.levels_are.rising k count c within in omega arith)

    short : (k : ℕ) (d : Level) → k < count → take (get_or old.levels.items k d).start (take level.start old.trail.items) ≡ take (get_or old.levels.items k d).start old.trail.items
    short k d c = take-take (get_or old.levels.items k d).start level.start old.trail.items (below k d c)

    short_head : (k : ℕ) (d : Level) → k < count → take (get_or old.levels.items k d).head (take level.start old.trail.items) ≡ take (get_or old.levels.items k d).head old.trail.items
    short_head k d c = take-take (get_or old.levels.items k d).head level.start old.trail.items (let a = below k d c in let b = engine.trail.levels_are.heads k d (omega arith) in omega arith)

    kept : (l : ℕ) → (has nat_eq old.trail.items l && not (has nat_eq (drop level.start old.trail.items) l)) ≡ has nat_eq (take level.start old.trail.items) l
    kept l = rw (sym (ap (λ (z : List ℕ). has nat_eq z l) (take-append-drop level.start old.trail.items)) ∙ has-append (take level.start old.trail.items) (drop level.start old.trail.items) l)
        (bits (has nat_eq (take level.start old.trail.items) l) (has nat_eq (drop level.start old.trail.items) l) refl refl)
      where
        bits : (a b : Bool) → has nat_eq (take level.start old.trail.items) l ≡ a → has nat_eq (drop level.start old.trail.items) l ≡ b → ((a || b) && not b) ≡ a
        bits true false e f = refl
        bits false true e f = refl
        bits false false e f = refl
        bits true true e f =
            let v = place_of (take level.start old.trail.items) l e in
            let w = place_of (drop level.start old.trail.items) l f in
            let b1 : v.place < level.start = omega (arith, v.below, trail_length) in
            let b2 : level.start + w.place < length old.trail.items = omega (arith, w.below, length-drop level.start old.trail.items) in
            let one : get_or old.trail.items v.place 0 ≡ l = sym (get_or-take level.start old.trail.items v.place 0 b1) ∙ v.is in
            let two : get_or old.trail.items (level.start + w.place) 0 ≡ l = sym (get_or-drop level.start old.trail.items w.place 0) ∙ w.is in
            contrary _ (subst (λ (z : ℕ). nat_eq (get_or old.trail.items v.place 0) z ≡ true) (one ∙ sym two) (is_literal-flip.equivalence.refl _))
            (apart_from_distinct nat_eq old.trail.items v.place (level.start + w.place) 0 engine.trail.distinct (omega arith) b2)

pub has-drop : (n : ℕ) (xs : List ℕ) (q : ℕ) → has nat_eq (drop n xs) q ≡ true → has nat_eq xs q ≡ true
has-drop n xs q h = subst (λ (l : List ℕ). has nat_eq l q ≡ true) (take-append-drop n xs) (has-append (take n xs) (drop n xs) q ∙ or_right (has nat_eq (take n xs) q) _ h)
