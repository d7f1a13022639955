-- How watches move between lists.
use Rattle.std.proofs.Common.{◌≡◌, ◌≢◌, ℕ, ◌+◌, ◌-◌, ◌<◌, ◌≤◌, Bool, true, List, [], ◌∷◌, ◌++◌, length, refl, sym, ap, ◌∙◌, subst, arith, get_or, take, set, nat_eq, ◌⊎◌, inl, inr}
use Rattle.std.specs.List.{swap_remove, All}
use Rattle.std.specs.Prelude.{slice_set}
use Rattle.std.proofs.lemmas.List.{get_or_append_left, get_or_push, length_push, get_or-take, get_or-set_same, get_or-set_other, length-set, length-take-le, set_past, get_or_default, take_at, set-set, set-get_or}
use Rattle.std.proofs.lemmas.List.Elements.{All-push, All-set, All-take}
use Rattle.std.proofs.lemmas.Bool.{cases_lt}
use Rattle.lits.specs.Clause.{has}
use Rattle.watch_lists.specs.State.{no_watch, no_pair, codes_at, pair_at, list_at, watch_at, pushed, HasWatch, Guards, AreGuards, IsLinked, IsWatch, AreWatches, AreWatched}
use Rattle.watch_lists.specs.declared.lists.Watch.{Watch}
use Rattle.watch_lists.specs.declared.engine.Pair.{Pair}
use Rattle.watch_lists.specs.declared.engine.Level.{Level}

pub decide : (a b : ℕ) → (a ≡ b) ⊎ (a ≢ b)
decide a b = grind arith

-- a fact of each place stays where one place is written
pub each-set : {X : Type 0} (P : ℕ → X → Type 0) (xs : List X) (i : ℕ) (y d : X) → ((k : ℕ) → P k (get_or xs k d)) → P i y → (k : ℕ) → P k (get_or (set xs i y) k d)
each-set {X} P xs i y d each here k = elim (decide k i) [
  | inr apart ↦ subst (λ (z : X). P k z) (sym (get_or-set_other xs i k y d apart)) (each k)
  | inl same ↦ elim (cases_lt i (length xs)) [
    | inl lt ↦ subst (λ (j : ℕ). P j (get_or (set xs i y) j d)) (sym same) (subst (λ (z : X). P i z) (sym (get_or-set_same xs i y d lt)) here)
    | inr past ↦ subst (λ (z : List X). P k (get_or z k d)) (sym (set_past xs i y past)) (each k)
  ]
]

-- a watch stays where another is pushed
pub has_watch-push : (list : List Watch) (w : Watch) (from i : ℕ) → HasWatch list from i → HasWatch (list ++ w ∷ []) from i
has_watch-push list w from i h = record {
  place = h.place;
  after = h.after;
  before = omega (arith, length_push list w, h.before);
  is = ap (λ (x : Watch). x.clause) (get_or_append_left list (w ∷ []) no_watch h.place h.before) ∙ h.is;
}

pub has_watch-last : (list : List Watch) (w : Watch) → HasWatch (list ++ w ∷ []) 0 w.clause
has_watch-last list w = record {
  place = length list;
  after = omega arith;
  before = omega (arith, length_push list w);
  is = ap (λ (x : Watch). x.clause) (get_or_push list w no_watch (length list) refl);
}

-- what `swap_remove` leaves at a place
swapped-other : {X : Type 0} (xs : List X) (at k : ℕ) (d e : X) → k + 1 < length xs → k ≢ at → get_or (swap_remove xs at d) k e ≡ get_or xs k e
swapped-other {X} xs at k d e h apart =
    let lt : k < length xs - 1 = omega arith in
    get_or-take (length xs - 1) (set xs at (get_or xs (length xs - 1) d)) k e lt ∙ get_or-set_other xs at k (get_or xs (length xs - 1) d) e apart

swapped-same : {X : Type 0} (xs : List X) (at : ℕ) (d e : X) → at + 1 < length xs → get_or (swap_remove xs at d) at e ≡ get_or xs (length xs - 1) e
swapped-same {X} xs at d e h =
    let lt : at < length xs - 1 = omega arith in
    let in_list : at < length xs = omega arith in
    let last : length xs - 1 < length xs = omega arith in
    get_or-take (length xs - 1) (set xs at (get_or xs (length xs - 1) d)) at e lt
    ∙ (get_or-set_same xs at (get_or xs (length xs - 1) d) e in_list ∙ get_or_default xs (length xs - 1) d e last)

pub length-swap_remove : {X : Type 0} (xs : List X) (at : ℕ) (d : X) → at < length xs → length (swap_remove xs at d) + 1 ≡ length xs
length-swap_remove {X} xs at d h =
    let same = length-set xs at (get_or xs (length xs - 1) d) in
    let short = length-take-le (length xs - 1) (set xs at (get_or xs (length xs - 1) d)) (omega arith) in
    omega arith

-- a watch of another clause stays where one is dropped
pub has_watch-drop : (list : List Watch) (at from i : ℕ) (d : Watch) → at < length list → from ≤ at
    → (watch_at list at).clause ≢ i → HasWatch list from i → HasWatch (swap_remove list at d) from i
has_watch-drop list at from i d within before apart h = elim (decide (h.place + 1) (length list)) [
  | inr inner ↦ elim (decide h.place at) [
    | inl same ↦ absurd (apart (subst (λ (k : ℕ). (watch_at list k).clause ≡ i) same h.is))
    | inr other ↦ record {
      place = h.place;
      after = h.after;
      before = let e = length-swap_remove list at d within in let b = h.before in omega arith;
      is = ap (λ (x : Watch). x.clause) (swapped-other list at h.place d no_watch (let b = h.before in omega arith) other) ∙ h.is;
    }
  ]
  | inl last ↦ elim (decide h.place at) [
    | inl same ↦ absurd (apart (subst (λ (k : ℕ). (watch_at list k).clause ≡ i) same h.is))
    | inr other ↦ record {
      place = at;
      after = before;
      before = let e = length-swap_remove list at d within in let b = h.before in omega arith;
      is = ap (λ (x : Watch). x.clause) (swapped-same list at d no_watch (omega arith))
          ∙ (ap (λ (k : ℕ). (watch_at list k).clause) (let e : length list - 1 ≡ h.place = omega arith in e) ∙ h.is);
    }
  ]
]

pub has_watch-next : (list : List Watch) (at i : ℕ) → HasWatch list at i → ((watch_at list at).clause ≡ i) ⊎ HasWatch list (at + 1) i
has_watch-next list at i h = elim (decide h.place at) [
  | inl same ↦ inl (subst (λ (k : ℕ). (watch_at list k).clause ≡ i) same h.is)
  | inr other ↦ inr (record { place = h.place; after = let a = h.after in omega arith; before = h.before; is = h.is })
]

-- a watch stays where one is pushed anywhere
pub has_watch-pushed : (lists : List (List Watch)) (l k i : ℕ) (w : Watch) → HasWatch (list_at lists k) 0 i → HasWatch (list_at (pushed lists l w) k) 0 i
has_watch-pushed lists l k i w h = elim (decide k l) [
  | inr apart ↦ subst (λ (z : List Watch). HasWatch z 0 i) (sym (get_or-set_other lists l k (list_at lists l ++ w ∷ []) [] apart)) h
  | inl same ↦ elim (cases_lt l (length lists)) [
    | inl lt ↦ subst (λ (j : ℕ). HasWatch (list_at (set lists l (list_at lists l ++ w ∷ [])) j) 0 i) (sym same)
        (subst (λ (z : List Watch). HasWatch z 0 i) (sym (get_or-set_same lists l (list_at lists l ++ w ∷ []) [] lt))
        (has_watch-push (list_at lists l) w 0 i (subst (λ (j : ℕ). HasWatch (list_at lists j) 0 i) same h)))
    | inr past ↦ subst (λ (z : List (List Watch)). HasWatch (list_at z k) 0 i) (sym (set_past lists l (list_at lists l ++ w ∷ []) past)) h
  ]
]

module _ {clauses : List (List ℕ)} {pairs : List Pair} {lists : List (List Watch)} {trail : List ℕ} {levels : List Level} {head : ℕ}
    (watched : AreWatched clauses pairs lists trail levels head) where
  -- a watch is pushed
  pub watched-push : (l : ℕ) (w : Watch) → IsWatch clauses (length pairs) l w
      → AreWatched clauses pairs (slice_set lists l (list_at lists l ++ w ∷ [])) trail levels head
  watched-push l w is = record {
    most = watched.most;
    linked = λ i h. record {
      first = has_watch-pushed lists l (pair_at pairs i).first i w (watched.linked i h).first;
      second = has_watch-pushed lists l (pair_at pairs i).second i w (watched.linked i h).second;
    };
    watches = each-set (λ (k : ℕ) (list : List Watch). All (IsWatch clauses (length pairs) k) list) lists l (list_at lists l ++ w ∷ []) [] watched.watches
        (All-push (IsWatch clauses (length pairs) l) (list_at lists l) w (watched.watches l) is);
    guards = watched.guards;
    bounds = watched.bounds;
  }

  -- a pair is changed
  pub watched-pair : (j : ℕ) (pair : Pair) → j < length pairs → IsLinked lists j pair
      → ((past now : List ℕ) → ((l : ℕ) → has nat_eq past l ≡ true → has nat_eq trail l ≡ true) → Guards past now (codes_at clauses j) (pair_at pairs j) → Guards past now (codes_at clauses j) pair)
      → ((n : ℕ) (l : ℕ) → has nat_eq (take n trail) l ≡ true → has nat_eq trail l ≡ true)
      → AreWatched clauses (slice_set pairs j pair) lists trail levels head
  watched-pair j pair within linked guard taken = record {
    most = subst (λ (n : ℕ). n ≤ length clauses) (sym same_length) watched.most;
    linked = λ i h. elim (decide i j) [
      | inl same ↦ subst (λ (k : ℕ). IsLinked lists k (pair_at (slice_set pairs j pair) k)) (sym same) (subst (λ (p : Pair). IsLinked lists j p) (sym here) linked)
      | inr apart ↦ subst (λ (p : Pair). IsLinked lists i p) (sym (there i apart)) (watched.linked i (old i h))
    ];
    watches = subst (λ (n : ℕ). AreWatches clauses n lists) (sym same_length) watched.watches;
    guards = λ i h. changed (take head trail) trail (taken head) watched.guards i h;
    bounds = λ k d h i g. changed (take (get_or levels k d).head trail) (take (get_or levels k d).start trail) (taken (get_or levels k d).head) (watched.bounds k d h) i g;
  }
    where
      same_length : length (slice_set pairs j pair) ≡ length pairs
      same_length = length-set pairs j pair

      here : pair_at (slice_set pairs j pair) j ≡ pair
      here = get_or-set_same pairs j pair no_pair within

      there : (i : ℕ) → i ≢ j → pair_at (slice_set pairs j pair) i ≡ pair_at pairs i
      there i apart = get_or-set_other pairs j i pair no_pair apart

      old : (i : ℕ) → i < length (slice_set pairs j pair) → i < length pairs
      old i h = subst (λ (n : ℕ). i < n) same_length h

      changed : (past now : List ℕ) → ((l : ℕ) → has nat_eq past l ≡ true → has nat_eq trail l ≡ true) → AreGuards clauses pairs past now → AreGuards clauses (slice_set pairs j pair) past now
      changed past now less all i h = elim (decide i j) [
        | inl same ↦ subst (λ (k : ℕ). Guards past now (codes_at clauses k) (pair_at (slice_set pairs j pair) k)) (sym same)
            (subst (λ (p : Pair). Guards past now (codes_at clauses j) p) (sym here) (guard past now less (all j within)))
        | inr apart ↦ subst (λ (p : Pair). Guards past now (codes_at clauses i) p) (sym (there i apart)) (all i (old i h))
      ]

  -- a watch is dropped of a clause that has moved on
  pub watched-drop : (l at : ℕ) (d : Watch) → at < length (list_at lists l)
      → ((i : ℕ) → i < length pairs → (watch_at (list_at lists l) at).clause ≡ i → ((pair_at pairs i).first ≢ l) × ((pair_at pairs i).second ≢ l))
      → AreWatched clauses pairs (slice_set lists l (swap_remove (list_at lists l) at d)) trail levels head
  watched-drop l at d within gone = record {
    most = watched.most;
    linked = λ i h. record {
      first = fewer (pair_at pairs i).first i (λ same e. (gone i h e).0 same) (watched.linked i h).first;
      second = fewer (pair_at pairs i).second i (λ same e. (gone i h e).1 same) (watched.linked i h).second;
    };
    watches = each-set (λ (k : ℕ) (list : List Watch). All (IsWatch clauses (length pairs) k) list) lists l (swap_remove (list_at lists l) at d) [] watched.watches
        (All-take (IsWatch clauses (length pairs) l) (length (list_at lists l) - 1) _ (All-set (IsWatch clauses (length pairs) l) (list_at lists l) at _ (watched.watches l (length (list_at lists l) - 1) d (omega arith)) (watched.watches l)));
    guards = watched.guards;
    bounds = watched.bounds;
  }
    where
      fewer : (k i : ℕ) → (k ≡ l → (watch_at (list_at lists l) at).clause ≢ i) → HasWatch (list_at lists k) 0 i → HasWatch (list_at (slice_set lists l (swap_remove (list_at lists l) at d)) k) 0 i
      fewer k i apart h = elim (decide k l) [
        | inr other ↦ subst (λ (z : List Watch). HasWatch z 0 i) (sym (get_or-set_other lists l k (swap_remove (list_at lists l) at d) [] other)) h
        | inl same ↦ elim (cases_lt l (length lists)) [
          | inl lt ↦ subst (λ (j : ℕ). HasWatch (list_at (set lists l (swap_remove (list_at lists l) at d)) j) 0 i) (sym same)
              (subst (λ (z : List Watch). HasWatch z 0 i) (sym (get_or-set_same lists l (swap_remove (list_at lists l) at d) [] lt))
              (has_watch-drop (list_at lists l) at 0 i d within (omega arith) (apart same) (subst (λ (j : ℕ). HasWatch (list_at lists j) 0 i) same h)))
          | inr past ↦ subst (λ (z : List (List Watch)). HasWatch (list_at z k) 0 i) (sym (set_past lists l (swap_remove (list_at lists l) at d) past)) h
        ]
      ]

-- a push is undone
pub pushed-back : (lists : List (List Watch)) (l : ℕ) (w : Watch) → l < length lists
    → slice_set (pushed lists l w) l (take (length (list_at (pushed lists l w) l) - 1) (list_at (pushed lists l w) l)) ≡ lists
pushed-back lists l w h =
    let there : list_at (pushed lists l w) l ≡ list_at lists l ++ w ∷ [] = get_or-set_same lists l (list_at lists l ++ w ∷ []) [] h in
    let back : take (length (list_at lists l ++ w ∷ []) - 1) (list_at lists l ++ w ∷ []) ≡ list_at lists l = take_at (list_at lists l) (w ∷ []) _ (omega (arith, length_push (list_at lists l) w)) in
    rw (there, back) (set-set lists l (list_at lists l ++ w ∷ []) (list_at lists l) ∙ set-get_or lists l [])

-- the pushed one is there
pub has_watch-new : (lists : List (List Watch)) (l : ℕ) (w : Watch) → l < length lists → HasWatch (list_at (pushed lists l w) l) 0 w.clause
has_watch-new lists l w h = subst (λ (z : List Watch). HasWatch z 0 w.clause) (sym (get_or-set_same lists l (list_at lists l ++ w ∷ []) [] h)) (has_watch-last (list_at lists l) w)

-- the next clause is watched
module _ {clauses : List (List ℕ)} {pairs : List Pair} {lists : List (List Watch)} {trail : List ℕ} {levels : List Level} {head : ℕ}
    (watched : AreWatched clauses pairs lists trail levels head) (pair : Pair) (room : length pairs < length clauses) (first_in : pair.first < length lists) (second_in : pair.second < length lists)
    (guard : Guards (take head trail) trail (codes_at clauses (length pairs)) pair)
    (bounds : All (λ v. Guards (take v.head trail) (take v.start trail) (codes_at clauses (length pairs)) pair) levels)
    (is_two : Bool) (only : is_two ≡ true → (l : ℕ) → has nat_eq (codes_at clauses (length pairs)) l ≡ true → (l ≡ pair.first) ⊎ (l ≡ pair.second)) where
  abbrev n : ℕ
  n = length pairs

  abbrev one : Watch
  one = record { clause = length pairs; blocker = pair.second; is_two = is_two }

  abbrev two : Watch
  two = record { clause = length pairs; blocker = pair.first; is_two = is_two }

  abbrev lists1 : List (List Watch)
  lists1 = pushed lists pair.first one

  abbrev lists2 : List (List Watch)
  lists2 = pushed lists1 pair.second two

  old : (i : ℕ) → i < length pairs → pair_at (pairs ++ pair ∷ []) i ≡ pair_at pairs i
  old i h = get_or_append_left pairs (pair ∷ []) no_pair i h

  new : pair_at (pairs ++ pair ∷ []) (length pairs) ≡ pair
  new = get_or_push pairs pair no_pair (length pairs) refl

  more : (l : ℕ) (w : Watch) → IsWatch clauses (length pairs) l w → IsWatch clauses (length pairs + 1) l w
  more l w is = record { guarded = let g = is.guarded in omega arith; inside = is.inside; only = is.only }

  one_is : IsWatch clauses (length pairs + 1) pair.first one
  one_is = record { guarded = omega arith; inside = guard.second_in; only = only }

  two_is : IsWatch clauses (length pairs + 1) pair.second two
  two_is = record { guarded = omega arith; inside = guard.first_in; only = λ e l h. elim (only e l h) [ inl a ↦ inr a | inr a ↦ inl a ] }

  watches1 : AreWatches clauses (length pairs + 1) lists1
  watches1 = each-set (λ (k : ℕ) (list : List Watch). All (IsWatch clauses (length pairs + 1) k) list) lists pair.first (list_at lists pair.first ++ one ∷ []) []
      (λ l k d h. more l _ (watched.watches l k d h)) (All-push (IsWatch clauses (length pairs + 1) pair.first) (list_at lists pair.first) one (λ k d h. more pair.first _ (watched.watches pair.first k d h)) one_is)

  watches2 : AreWatches clauses (length pairs + 1) lists2
  watches2 = each-set (λ (k : ℕ) (list : List Watch). All (IsWatch clauses (length pairs + 1) k) list) lists1 pair.second (list_at lists1 pair.second ++ two ∷ []) []
      watches1 (All-push (IsWatch clauses (length pairs + 1) pair.second) (list_at lists1 pair.second) two (watches1 pair.second) two_is)

  all : (past now : List ℕ) → AreGuards clauses pairs past now → Guards past now (codes_at clauses (length pairs)) pair → AreGuards clauses (pairs ++ pair ∷ []) past now
  all past now each here i h = elim (decide i (length pairs)) [
    | inr before ↦ subst (λ (p : Pair). Guards past now (codes_at clauses i) p) (sym (old i (omega (arith, length_push pairs pair)))) (each i (omega (arith, length_push pairs pair)))
    | inl last ↦ subst (λ (k : ℕ). Guards past now (codes_at clauses k) (pair_at (pairs ++ pair ∷ []) k)) (sym last) (subst (λ (p : Pair). Guards past now (codes_at clauses (length pairs)) p) (sym new) here)
  ]

  pub watched-next : AreWatched clauses (pairs ++ pair ∷ []) (pushed (pushed lists pair.first (record { clause = length pairs; blocker = pair.second; is_two = is_two })) pair.second (record { clause = length pairs; blocker = pair.first; is_two = is_two })) trail levels head
  watched-next = record {
    most = omega (arith, length_push pairs pair);
    linked = λ i h. elim (decide i n) [
      | inr before ↦ subst (λ (p : Pair). IsLinked lists2 i p) (sym (old i (omega (arith, length_push pairs pair)))) (record {
        first = has_watch-pushed lists1 pair.second _ i two (has_watch-pushed lists pair.first _ i one (watched.linked i (omega (arith, length_push pairs pair))).first);
        second = has_watch-pushed lists1 pair.second _ i two (has_watch-pushed lists pair.first _ i one (watched.linked i (omega (arith, length_push pairs pair))).second);
      })
      | inl last ↦ subst (λ (k : ℕ). IsLinked lists2 k (pair_at (pairs ++ pair ∷ []) k)) (sym last) (subst (λ (p : Pair). IsLinked lists2 n p) (sym new) (record {
        first = has_watch-pushed lists1 pair.second pair.first n two (has_watch-new lists pair.first one first_in);
        second = has_watch-new lists1 pair.second two (omega (arith, length-set lists pair.first (list_at lists pair.first ++ one ∷ [])));
      }))
    ];
    watches = subst (λ (m : ℕ). AreWatches clauses m lists2) (sym (length_push pairs pair)) watches2;
    guards = λ i h. all (take head trail) trail watched.guards guard i h;
    bounds = λ k d h i g. all (take (get_or levels k d).head trail) (take (get_or levels k d).start trail) (watched.bounds k d h) (bounds k d h) i g;
  }
