-- The turn after a put, a dropped watch and a moved watch.
use Rattle.std.proofs.Common.{◌≡◌, ◌≢◌, ℕ, ◌+◌, ◌<◌, ◌≤◌, Bool, true, false, List, [], ◌∷◌, ◌++◌, length, refl, sym, ap, ◌∙◌, subst, arith, get_or, take, nat_eq, Option, Some, None, ◌⊎◌, inl, inr}
use Rattle.std.specs.List.{swap_remove, All}
use Rattle.std.specs.Prelude.{slice_index_or, slice_set, is_none}
use Rattle.std.proofs.lemmas.List.{get_or-set_same, get_or_append_left, get_or_read, get_or_push, get_or-take, length-set, length_push, length-take, take-take, take_all, take_more, take-append-le}
use Rattle.std.proofs.lemmas.Bool.{or_cases, cases_lt}
use Rattle.lits.specs.Clause.{has}
use Rattle.watch_lists.specs.Codes.{flip}
use Rattle.watch_lists.specs.State.{codes_at, pair_at, list_at, watch_at, is_met, IsJustified, IsEngine, IsTurn, IsOther, IsLinked, HasWatch, Holds, Stays, Grows, Guards, pushed}
use Rattle.watch_lists.specs.Step.{IsSame, IsLike, IsPut}
use Rattle.watch_lists.specs.declared.lists.Watch.{Watch}
use Rattle.watch_lists.specs.declared.engine.Pair.{Pair}
use Rattle.watch_lists.specs.declared.engine.Engine.{Engine}
use Rattle.watch_lists.proofs.WatchLemmas.{watched-drop, length-swap_remove, watched-next}
use Rattle.watch_lists.proofs.TrailLemmas.{trail-put, watched-put, turned-put, has-push_cases, trail-below, settled-put, levels-put, starts-most, heads-most, flips}
use Rattle.watch_lists.proofs.FlipLemmas.{is_literal-flip, same_exact}
use Rattle.watch_lists.proofs.GuardLemmas.{guarded-turned}
use Rattle.watch_lists.proofs.VisitLemmas.{turned-drop, turn-false, moved-watched, moved-list, moved-size, moved-turned}
use Rattle.watch_lists.proofs.Facts.{has-at}

pub engine-put : (old new : Engine) (x by : ℕ) → IsEngine old → IsPut old x (Some by) new → x < length old.truth.items
    → has nat_eq old.trail.items x ≡ false → has nat_eq old.trail.items (flip x) ≡ false → IsJustified old.clauses old.trail.items x (Some by) → IsEngine new
engine-put old new x by engine put within fresh free just = record {
  lists = rw (put.lists, put.truth) (engine.lists ∙ sym (length-set old.truth.items x true));
  small = rw (put.truth, length-set old.truth.items x true) engine.small;
  few = rw put.clauses engine.few;
  settled = rw (put.clauses, put.trail, put.levels) (settled-put old.clauses old.trail.items old.levels.items engine.settled (starts-most engine.trail) x);
  watched = rw (put.clauses, put.pairs, put.lists, put.trail, put.levels, put.head) (watched-put engine.watched engine.trail.head_most (starts-most engine.trail) (heads-most engine.trail) x);
  trail = rw (put.clauses, put.truth, put.places, put.trail, put.reasons, put.levels, put.head)
      (trail-put engine.trail x (Some by) old.levels.items (levels-put old.levels.items old.reasons.items by engine.trail.levels_are) within fresh free just);
}

pub turn-put : (old new : Engine) (x by lit at : ℕ) → IsTurn old lit at → IsPut old x (Some by) new → x < length old.truth.items
    → has nat_eq old.trail.items x ≡ false → has nat_eq old.trail.items (flip x) ≡ false → IsJustified old.clauses old.trail.items x (Some by) → IsTurn new lit at
turn-put old new x by lit at turn put within fresh free just = record {
  engine = engine-put old new x by turn.engine put within fresh free just;
  next = rw (put.head, put.trail) (omega (arith, length_push old.trail.items x, turn.next));
  lit_in = rw put.truth (subst (λ (n : ℕ). lit < n) (sym (length-set old.truth.items x true)) turn.lit_in);
  is = rw (put.head, put.trail) (turn.is ∙ sym (get_or_append_left old.trail.items (x ∷ []) 0 old.head turn.next));
  turned = rw (put.clauses, put.pairs, put.trail, put.lists) (turned-put x turn.turned);
}

pub turn-drop : (old new : Engine) (lit at : ℕ) (d : Watch) → IsTurn old lit at → IsLike old new → new.pairs.items ≡ old.pairs.items
    → new.lists ≡ slice_set old.lists lit (swap_remove (list_at old.lists lit) at d) → at < length (list_at old.lists lit)
    → ((pair_at old.pairs.items (watch_at (list_at old.lists lit) at).clause).first ≢ lit) × ((pair_at old.pairs.items (watch_at (list_at old.lists lit) at).clause).second ≢ lit)
    → IsTurn new lit at × (length (list_at new.lists lit) + 1 ≡ length (list_at old.lists lit))
turn-drop old new lit at d turn like same_pairs same_lists within apart = (
  record {
    engine = record {
      lists = rw (same_lists, like.truth) (length-set old.lists lit _ ∙ turn.engine.lists);
      small = rw like.truth turn.engine.small;
      few = rw like.clauses turn.engine.few;
      settled = rw (like.clauses, like.trail, like.levels) turn.engine.settled;
      watched = rw (like.clauses, same_pairs, same_lists, like.trail, like.levels, like.head) (watched-drop turn.engine.watched lit at d within gone);
      trail = rw (like.clauses, like.truth, like.places, like.trail, like.reasons, like.levels, like.head) turn.engine.trail;
    };
    next = rw (like.head, like.trail) turn.next;
    lit_in = rw like.truth turn.lit_in;
    is = rw (like.head, like.trail) turn.is;
    turned = rw (like.clauses, same_pairs, like.trail, same_lists, there) (turned-drop (list_at old.lists lit) d within gone turn.turned);
  },
  rw (same_lists, there) (length-swap_remove (list_at old.lists lit) at d within),
)
  where
    lit_in : lit < length old.lists
    lit_in = subst (λ (n : ℕ). lit < n) (sym turn.engine.lists) turn.lit_in

    there : list_at (slice_set old.lists lit (swap_remove (list_at old.lists lit) at d)) lit ≡ swap_remove (list_at old.lists lit) at d
    there = get_or-set_same old.lists lit _ [] lit_in

    gone : (i : ℕ) → i < length old.pairs.items → (watch_at (list_at old.lists lit) at).clause ≡ i → ((pair_at old.pairs.items i).first ≢ lit) × ((pair_at old.pairs.items i).second ≢ lit)
    gone i h e = subst (λ (k : ℕ). ((pair_at old.pairs.items k).first ≢ lit) × ((pair_at old.pairs.items k).second ≢ lit)) e apart

pub turn-move : (old new : Engine) (lit at j other x : ℕ) (d : Watch) (lists1 : List (List Watch)) → IsTurn old lit at → IsLike old new
    → new.pairs.items ≡ slice_set old.pairs.items j (record { first = other; second = x })
    → lists1 ≡ slice_set old.lists x (list_at old.lists x ++ record { clause = j; blocker = other; is_two = false } ∷ [])
    → new.lists ≡ slice_set lists1 lit (swap_remove (list_at lists1 lit) at d)
    → at < length (list_at old.lists lit) → (watch_at (list_at old.lists lit) at).clause ≡ j
    → x < length old.truth.items → IsOther (pair_at old.pairs.items j) lit other → nat_eq other lit ≡ false
    → has nat_eq (codes_at old.clauses j) x ≡ true → has nat_eq old.trail.items (flip x) ≡ false → nat_eq other x ≡ false
    → IsTurn new lit at × (length (list_at new.lists lit) + 1 ≡ length (list_at old.lists lit))
turn-move old new lit at j other x d lists1 turn like new_pairs first_lists new_lists within here x_in is_other apart inside free fresh = (
  record {
    engine = record {
      lists = rw (new_lists, first_lists, like.truth) (length-set _ lit _ ∙ (length-set old.lists x _ ∙ turn.engine.lists));
      small = rw like.truth turn.engine.small;
      few = rw like.clauses turn.engine.few;
      settled = rw (like.clauses, like.trail, like.levels) turn.engine.settled;
      watched = rw (like.clauses, new_pairs, new_lists, first_lists, like.trail, like.levels, like.head)
          (moved-watched turn.engine.watched lit at j other x within here lit_in (subst (λ (n : ℕ). x < n) (sym turn.engine.lists) x_in) is_other apart inside free fresh (turn-false turn) d);
      trail = rw (like.clauses, like.truth, like.places, like.trail, like.reasons, like.levels, like.head) turn.engine.trail;
    };
    next = rw (like.head, like.trail) turn.next;
    lit_in = rw like.truth turn.lit_in;
    is = rw (like.head, like.trail) turn.is;
    turned = rw (like.clauses, new_pairs, like.trail, new_lists, first_lists, there)
        (moved-turned turn.engine.watched lit at j other x within here lit_in (subst (λ (n : ℕ). x < n) (sym turn.engine.lists) x_in) is_other apart inside free fresh (turn-false turn) d turn.turned);
  },
  rw (new_lists, first_lists, there) (moved-size turn.engine.watched lit at j other x within here lit_in (subst (λ (n : ℕ). x < n) (sym turn.engine.lists) x_in) is_other apart inside free fresh (turn-false turn) d),
)
  where
    lit_in : lit < length old.lists
    lit_in = subst (λ (n : ℕ). lit < n) (sym turn.engine.lists) turn.lit_in

    there : list_at (slice_set (slice_set old.lists x (list_at old.lists x ++ record { clause = j; blocker = other; is_two = false } ∷ [])) lit (swap_remove (list_at (slice_set old.lists x (list_at old.lists x ++ record { clause = j; blocker = other; is_two = false } ∷ [])) lit) at d)) lit
        ≡ swap_remove (list_at (slice_set old.lists x (list_at old.lists x ++ record { clause = j; blocker = other; is_two = false } ∷ [])) lit) at d
    there = moved-list turn.engine.watched lit at j other x within here lit_in (subst (λ (n : ℕ). x < n) (sym turn.engine.lists) x_in) is_other apart inside free fresh (turn-false turn) d

-- engines that keep what another keeps
take-trans : {X : Type 0} (a b c : List X) → take (length a) b ≡ a → take (length b) c ≡ b → take (length a) c ≡ a
take-trans {X} a b c e f =
    let m : length a ≤ length b = omega (arith, length-take (length a) b, ap length e) in
    sym (take-take (length a) (length b) c m) ∙ (ap (λ (z : List X). take (length a) z) f ∙ e)

pub grows-trans : (a b c : List ℕ) (p q r : List (Option ℕ)) → Grows a b p q → Grows b c q r → Grows a c p r
grows-trans a b c p q r g h = record {
  trail = take-trans a b c g.trail h.trail;
  reasons = take-trans p q r g.reasons h.reasons;
  forced = λ k low high. elim (cases_lt k (length q)) [
    | inl inner ↦ subst (λ (o : Option ℕ). is_none o ≡ false) (sym (ap (λ (z : List (Option ℕ)). get_or z k None) h.reasons) ∙ get_or-take (length q) r k None inner) (g.forced k low inner)
    | inr outer ↦ h.forced k outer high
  ];
}

pub grows-refl : (a : List ℕ) (p : List (Option ℕ)) → Grows a a p p
grows-refl a p = record { trail = take_all (length a) a (omega arith); reasons = take_all (length p) p (omega arith); forced = λ k low high. absurd (omega arith) }

pub grows-push : (a : List ℕ) (p : List (Option ℕ)) (x by : ℕ) → Grows a (a ++ x ∷ []) p (p ++ Some by ∷ [])
grows-push a p x by = record {
  trail = take-append-le (length a) a (x ∷ []) (omega arith) ∙ take_all (length a) a (omega arith);
  reasons = take-append-le (length p) p (Some by ∷ []) (omega arith) ∙ take_all (length p) p (omega arith);
  forced = λ k low high. ap is_none (get_or_push p (Some by) None k (omega (arith, length_push p (Some by))));
}

pub holds-trans : (a b c : Engine) → Holds a b → Holds b c → Holds a c
holds-trans a b c ab bc = record {
  clauses = bc.clauses ∙ ab.clauses;
  levels = bc.levels ∙ ab.levels;
  head = bc.head ∙ ab.head;
  size = bc.size ∙ ab.size;
  pairs = let x = ab.pairs in let y = bc.pairs in omega arith;
  grows = grows-trans a.trail.items b.trail.items c.trail.items a.reasons.items b.reasons.items c.reasons.items ab.grows bc.grows;
}

pub stays-trans : (a b c : Engine) → Stays a b → Stays b c → Stays a c
stays-trans a b c ab bc = record {
  clauses = bc.clauses ∙ ab.clauses;
  levels = bc.levels ∙ ab.levels;
  size = bc.size ∙ ab.size;
  pairs = let x = ab.pairs in let y = bc.pairs in omega arith;
  grows = grows-trans a.trail.items b.trail.items c.trail.items a.reasons.items b.reasons.items c.reasons.items ab.grows bc.grows;
}

pub holds_refl : (a : Engine) → Holds a a
holds_refl a = record { clauses = refl; levels = refl; head = refl; size = refl; pairs = omega arith; grows = grows-refl a.trail.items a.reasons.items }

pub stays_refl : (a : Engine) → Stays a a
stays_refl a = record { clauses = refl; levels = refl; size = refl; pairs = omega arith; grows = grows-refl a.trail.items a.reasons.items }

pub stays-holds : (a b : Engine) → Holds a b → Stays a b
stays-holds a b k = record { clauses = k.clauses; levels = k.levels; size = k.size; pairs = k.pairs; grows = k.grows }

-- what keeps all but watches and copies
pub holds-like : (a b : Engine) → IsLike a b → length a.pairs.items ≤ length b.pairs.items → Holds a b
holds-like a b like more = record {
  clauses = like.clauses;
  levels = like.levels;
  head = like.head;
  size = ap length like.truth;
  pairs = more;
  grows = rw (like.trail, like.reasons) (grows-refl a.trail.items a.reasons.items);
}

pub like-same : (a b : Engine) → IsSame a b → IsLike a b
like-same a b s = record { clauses = s.clauses; truth = s.truth; places = s.places; trail = s.trail; reasons = s.reasons; levels = s.levels; head = s.head }

pub holds-same : (a b : Engine) → IsSame a b → Holds a b
holds-same a b s = holds-like a b (like-same a b s) (omega (arith, ap length s.pairs))

pub put-holds : (old new : Engine) (x by : ℕ) → IsPut old x (Some by) new → Holds old new
put-holds old new x by put = record {
  clauses = put.clauses;
  levels = put.levels;
  head = put.head;
  size = ap length put.truth ∙ length-set old.truth.items x true;
  pairs = omega (arith, ap length put.pairs);
  grows = rw (put.trail, put.reasons) (grows-push old.trail.items old.reasons.items x by);
}

-- the turn of the next literal begins
pub turn-start : (e : Engine) (lit : ℕ) → IsEngine e → e.head < length e.trail.items → flip lit ≡ slice_index_or e.trail.items e.head 0 → lit < length e.truth.items → IsTurn e lit 0
turn-start e lit engine next is lit_in = record {
  engine = engine;
  next = next;
  lit_in = lit_in;
  is = is;
  turned = record { each = λ i h watches. inr (start i (or_cases _ _ watches) (engine.watched.linked i h)) };
}
  where
    start : (i : ℕ) → (nat_eq (pair_at e.pairs.items i).first lit ≡ true) ⊎ (nat_eq (pair_at e.pairs.items i).second lit ≡ true) → IsLinked e.lists i (pair_at e.pairs.items i) → HasWatch (list_at e.lists lit) 0 i
    start i (inl f) linked = subst (λ (l : ℕ). HasWatch (list_at e.lists l) 0 i) (same_exact _ lit f) linked.first
    start i (inr f) linked = subst (λ (l : ℕ). HasWatch (list_at e.lists l) 0 i) (same_exact _ lit f) linked.second

pub record IsPast (old new : Engine) : Type 0 where
  pub clauses : new.clauses ≡ old.clauses
  pub pairs : new.pairs.items ≡ old.pairs.items
  pub lists : new.lists ≡ old.lists
  pub truth : new.truth.items ≡ old.truth.items
  pub places : new.places.items ≡ old.places.items
  pub trail : new.trail.items ≡ old.trail.items
  pub reasons : new.reasons.items ≡ old.reasons.items
  pub levels : new.levels.items ≡ old.levels.items
  pub head : new.head ≡ old.head + 1

-- and ends: one more literal of the trail is past
pub turn-end : (old new : Engine) (lit at : ℕ) → IsTurn old lit at → length (list_at old.lists lit) ≤ at → IsPast old new → IsEngine new
turn-end old new lit at turn past like = record {
  lists = rw (like.lists, like.truth) turn.engine.lists;
  small = rw like.truth turn.engine.small;
  few = rw like.clauses turn.engine.few;
  settled = rw (like.clauses, like.trail, like.levels) turn.engine.settled;
  watched = rw (like.clauses, like.pairs, like.lists, like.trail, like.levels, like.head) (record {
    most = turn.engine.watched.most;
    linked = turn.engine.watched.linked;
    watches = turn.engine.watched.watches;
    guards = λ i h. guarded-turned (has nat_eq (take old.head old.trail.items)) (has nat_eq (take (old.head + 1) old.trail.items)) (has nat_eq old.trail.items) (codes_at old.clauses i) _ _ lit split
        (λ watches. met i (turn.turned.each i h watches)) (turn.engine.watched.guards i h);
    bounds = turn.engine.watched.bounds;
  });
  trail = rw (like.clauses, like.truth, like.places, like.trail, like.reasons, like.levels, like.head) (record {
    reasons_all = turn.engine.trail.reasons_all;
    head_most = omega (arith, turn.next);
    levels_are = turn.engine.trail.levels_are;
    places_all = turn.engine.trail.places_all;
    placed = turn.engine.trail.placed;
    within = turn.engine.trail.within;
    even = turn.engine.trail.even;
    distinct = turn.engine.trail.distinct;
    marks = turn.engine.trail.marks;
    apart = turn.engine.trail.apart;
    justified = turn.engine.trail.justified;
  });
}
  where
    met : (i : ℕ) → (is_met old.trail.items (codes_at old.clauses i) ≡ true) ⊎ HasWatch (list_at old.lists lit) at i → is_met old.trail.items (codes_at old.clauses i) ≡ true
    met i (inl done) = done
    met i (inr still) = absurd (omega (arith, still.after, still.before))

    split : (l : ℕ) → has nat_eq (take (old.head + 1) old.trail.items) (flip l) ≡ true → (has nat_eq (take old.head old.trail.items) (flip l) ≡ true) ⊎ (nat_eq l lit ≡ true)
    split l h = elim (has-push_cases (take old.head old.trail.items) (get_or old.trail.items old.head 0) (flip l) (subst (λ (z : List ℕ). has nat_eq z (flip l) ≡ true) (take_more old.trail.items old.head 0 turn.next) h)) [
      | inl before ↦ inl before
      | inr same ↦
          let back : lit ≡ l = sym (is_literal-flip.twice lit) ∙ (ap flip (turn.is ∙ same) ∙ is_literal-flip.twice l) in
          inr (subst (λ (z : ℕ). nat_eq l z ≡ true) (sym back) (is_literal-flip.equivalence.refl l))
    ]

-- what was read of the trail is in range, and its negation's turn is next
pub turn-next_in : (e : Engine) (x lit : ℕ) → IsEngine e → e.head < length e.trail.items → x ≡ slice_index_or e.trail.items e.head x → lit ≡ flip x → IsTurn e lit 0
turn-next_in e x lit engine next read is =
    let read0 : x ≡ get_or e.trail.items e.head 0 = get_or_read e.trail.items e.head x next read 0 in
    let inside : has nat_eq e.trail.items x ≡ true = subst (λ (z : ℕ). has nat_eq e.trail.items z ≡ true) (sym read0) (has-at e.trail.items e.head next) in
    turn-start e lit engine next (ap flip is ∙ (is_literal-flip.twice x ∙ read0))
    (subst (λ (z : ℕ). z < length e.truth.items) (sym is) (flips engine.trail x (trail-below engine.trail x inside)))

-- an engine with the same fields
pub engine-same : (old new : Engine) → IsEngine old → IsSame old new → IsEngine new
engine-same old new engine same = record {
  lists = rw (same.lists, same.truth) engine.lists;
  small = rw same.truth engine.small;
  few = rw same.clauses engine.few;
  settled = rw (same.clauses, same.trail, same.levels) engine.settled;
  watched = rw (same.clauses, same.pairs, same.lists, same.trail, same.levels, same.head) engine.watched;
  trail = rw (same.clauses, same.truth, same.places, same.trail, same.reasons, same.levels, same.head) engine.trail;
}

pub engine-watched : (old new : Engine) (at : ℕ) (pair : Pair) (is_two : Bool) → IsEngine old → at ≡ length old.pairs.items → at < length old.clauses
    → Guards (take old.head old.trail.items) old.trail.items (codes_at old.clauses at) pair
    → All (λ v. Guards (take v.head old.trail.items) (take v.start old.trail.items) (codes_at old.clauses at) pair) old.levels.items
    → (is_two ≡ true → (l : ℕ) → has nat_eq (codes_at old.clauses at) l ≡ true → (l ≡ pair.first) ⊎ (l ≡ pair.second))
    → new.pairs.items ≡ old.pairs.items ++ pair ∷ []
    → new.lists ≡ pushed (pushed old.lists pair.first (record { clause = at; blocker = pair.second; is_two = is_two })) pair.second (record { clause = at; blocker = pair.first; is_two = is_two })
    → IsLike old new → IsEngine new
engine-watched old new at pair is_two engine count room guard bounds only new_pairs new_lists like = record {
  lists = rw (new_lists, like.truth) (length-set _ pair.second _ ∙ (length-set old.lists pair.first _ ∙ engine.lists));
  small = rw like.truth engine.small;
  few = rw like.clauses engine.few;
  settled = rw (like.clauses, like.trail, like.levels) engine.settled;
  watched = rw (like.clauses, new_pairs, new_lists, count, like.trail, like.levels, like.head)
      (watched-next engine.watched pair (omega (arith, count)) (in_lists pair.first guard.first_in) (in_lists pair.second guard.second_in)
      (subst (λ (n : ℕ). Guards (take old.head old.trail.items) old.trail.items (codes_at old.clauses n) pair) count guard)
      (subst (λ (n : ℕ). All (λ v. Guards (take v.head old.trail.items) (take v.start old.trail.items) (codes_at old.clauses n) pair) old.levels.items) count bounds)
      is_two (subst (λ (n : ℕ). is_two ≡ true → (l : ℕ) → has nat_eq (codes_at old.clauses n) l ≡ true → (l ≡ pair.first) ⊎ (l ≡ pair.second)) count only));
  trail = rw (like.clauses, like.truth, like.places, like.trail, like.reasons, like.levels, like.head) engine.trail;
}
  where
    in_lists : (l : ℕ) → has nat_eq (codes_at old.clauses at) l ≡ true → l < length old.lists
    in_lists l h = subst (λ (n : ℕ). l < n) (sym engine.lists) (engine.trail.within at l h)
