-- A watch gets another blocker.
use Rattle.std.proofs.Common.{◌≡◌, ℕ, ◌<◌, List, [], length, refl, sym, ap, ◌∙◌, subst, arith, nat_eq, true, false, inl, inr}
use Rattle.std.specs.List.{All}
use Rattle.std.specs.Prelude.{slice_set}
use Rattle.std.proofs.lemmas.List.{get_or-set_same, get_or-set_other, length-set, set_past}
use Rattle.std.proofs.lemmas.List.Elements.{All-set}
use Rattle.std.proofs.lemmas.Bool.{cases_lt}
use Rattle.lits.specs.Clause.{has}
use Rattle.unit_prop.proofs.Facts.{contrary}
use Rattle.watch_lists.specs.State.{no_watch, codes_at, list_at, watch_at, blocked, HasWatch, IsWatch, AreWatched, IsTurn}
use Rattle.watch_lists.specs.Step.{IsLike}
use Rattle.watch_lists.specs.declared.lists.Watch.{Watch}
use Rattle.watch_lists.specs.declared.engine.Pair.{Pair}
use Rattle.watch_lists.specs.declared.engine.Engine.{Engine}
use Rattle.watch_lists.specs.declared.engine.Level.{Level}
use Rattle.watch_lists.proofs.WatchLemmas.{decide, each-set}

-- each watch is of the same clause
blocked-clause : (list : List Watch) (at blocker k : ℕ) → (watch_at (blocked list at blocker) k).clause ≡ (watch_at list k).clause
blocked-clause list at blocker k = elim (decide k at) [
  | inr apart ↦ ap (λ (w : Watch). w.clause) (get_or-set_other list at k _ no_watch apart)
  | inl same ↦ elim (cases_lt at (length list)) [
    | inl lt ↦ subst (λ (j : ℕ). (watch_at (blocked list at blocker) j).clause ≡ (watch_at list j).clause) (sym same)
        (ap (λ (w : Watch). w.clause) (get_or-set_same list at _ no_watch lt))
    | inr past ↦ ap (λ (l : List Watch). (watch_at l k).clause) (set_past list at _ past)
  ]
]

has_watch-blocked : (list : List Watch) (at blocker from i : ℕ) → HasWatch list from i → HasWatch (blocked list at blocker) from i
has_watch-blocked list at blocker from i h = record {
  place = h.place;
  after = h.after;
  before = omega (arith, h.before, length-set list at (record { clause = (watch_at list at).clause; blocker = blocker; is_two = false }));
  is = blocked-clause list at blocker h.place ∙ h.is;
}

has_watch-block : (lists : List (List Watch)) (lit at blocker k i : ℕ) → HasWatch (list_at lists k) 0 i
    → HasWatch (list_at (slice_set lists lit (blocked (list_at lists lit) at blocker)) k) 0 i
has_watch-block lists lit at blocker k i h = elim (decide k lit) [
  | inr apart ↦ subst (λ (z : List Watch). HasWatch z 0 i) (sym (get_or-set_other lists lit k (blocked (list_at lists lit) at blocker) [] apart)) h
  | inl same ↦ elim (cases_lt lit (length lists)) [
    | inl lt ↦ subst (λ (j : ℕ). HasWatch (list_at (slice_set lists lit (blocked (list_at lists lit) at blocker)) j) 0 i) (sym same)
        (subst (λ (z : List Watch). HasWatch z 0 i) (sym (get_or-set_same lists lit (blocked (list_at lists lit) at blocker) [] lt))
        (has_watch-blocked (list_at lists lit) at blocker 0 i (subst (λ (j : ℕ). HasWatch (list_at lists j) 0 i) same h)))
    | inr past ↦ subst (λ (z : List (List Watch)). HasWatch (list_at z k) 0 i) (sym (set_past lists lit (blocked (list_at lists lit) at blocker) past)) h
  ]
]

-- the watches are as good as before where the blocker is a literal of the clause
watched-block : {clauses : List (List ℕ)} {pairs : List Pair} {lists : List (List Watch)} {trail : List ℕ} {levels : List Level} {head : ℕ}
    → AreWatched clauses pairs lists trail levels head → (lit at blocker : ℕ) → at < length (list_at lists lit)
    → has nat_eq (codes_at clauses (watch_at (list_at lists lit) at).clause) blocker ≡ true
    → AreWatched clauses pairs (slice_set lists lit (blocked (list_at lists lit) at blocker)) trail levels head
watched-block {clauses} {pairs} {lists} watched lit at blocker within inside = record {
  most = watched.most;
  linked = λ i h. record {
    first = has_watch-block lists lit at blocker _ i (watched.linked i h).first;
    second = has_watch-block lists lit at blocker _ i (watched.linked i h).second;
  };
  watches = each-set (λ (k : ℕ) (list : List Watch). All (IsWatch clauses (length pairs) k) list) lists lit (blocked (list_at lists lit) at blocker) [] watched.watches
      (All-set (IsWatch clauses (length pairs) lit) (list_at lists lit) at _
      (record { guarded = (watched.watches lit at no_watch within).guarded; inside = inside; only = λ e. contrary _ e refl }) (watched.watches lit));
  guards = watched.guards;
  bounds = watched.bounds;
}

-- so the turn goes on as it would
pub turn-block : (old new : Engine) (lit at from blocker : ℕ) → IsTurn old lit from → IsLike old new → new.pairs.items ≡ old.pairs.items
    → new.lists ≡ slice_set old.lists lit (blocked (list_at old.lists lit) at blocker) → at < length (list_at old.lists lit)
    → has nat_eq (codes_at old.clauses (watch_at (list_at old.lists lit) at).clause) blocker ≡ true
    → IsTurn new lit from × (length (list_at new.lists lit) ≡ length (list_at old.lists lit))
turn-block old new lit at from blocker turn like same_pairs same_lists within inside = (
  record {
    engine = record {
      lists = rw (same_lists, like.truth) (length-set old.lists lit _ ∙ turn.engine.lists);
      small = rw like.truth turn.engine.small;
      few = rw like.clauses turn.engine.few;
      settled = rw (like.clauses, like.trail, like.levels) turn.engine.settled;
      watched = rw (like.clauses, same_pairs, same_lists, like.trail, like.levels, like.head) (watched-block turn.engine.watched lit at blocker within inside);
      trail = rw (like.clauses, like.truth, like.places, like.trail, like.reasons, like.levels, like.head) turn.engine.trail;
    };
    next = rw (like.head, like.trail) turn.next;
    lit_in = rw like.truth turn.lit_in;
    is = rw (like.head, like.trail) turn.is;
    turned = rw (like.clauses, same_pairs, like.trail, same_lists, there) (record {
      each = λ i h e. elim (turn.turned.each i h e) [
        | inl done ↦ inl done
        | inr still ↦ inr (has_watch-blocked (list_at old.lists lit) at blocker from i still)
      ];
    });
  },
  rw (same_lists, there) (length-set (list_at old.lists lit) at _),
)
  where
    there : list_at (slice_set old.lists lit (blocked (list_at old.lists lit) at blocker)) lit ≡ blocked (list_at old.lists lit) at blocker
    there = get_or-set_same old.lists lit _ [] (subst (λ (n : ℕ). lit < n) (sym turn.engine.lists) turn.lit_in)
