-- Draws, and the turns under each number, at each change.
use Rattle.std.proofs.Common.{◌≡◌, ◌≢◌, ℕ, zero, suc, ◌+◌, ◌<◌, ◌≤◌, Bool, true, false, cond, ◌==◌, List, [], ◌∷◌, ◌++◌, length, map, set, sym, refl, ap, ◌∙◌, subst, ⊎_elim, arith}
use Rattle.std.specs.List.{flat_map}
use Rattle.std.proofs.lemmas.List.{append-nil, map-append}
use Rattle.std.proofs.lemmas.List.Elements.{filter-append}
use mathlib.Core.Option.{some}
use native.Mathlib.Decide.{ℕ_discrete}
use lib.ListN.{get_elem?}
use Rattle.std.proofs.lemmas.Bool.Decides.{nat_tests}
use Rattle.atomic_table.proofs.Lists.{at_set, set_here, set_else}
use Rattle.lemma_book.specs.declared.turn.Turn.{Turn}
use Rattle.ticket_lock.specs.Totals.{times, once_below}
use Rattle.ticket_lock.specs.Views.{member, owning}
use Rattle.ticket_lock.specs.Claims.{AreApart}
use Rattle.ticket_lock.proofs.Facts.{total-set, total-two, total-keep, total-cut, total-join, each-set, each-from, from-cut, from-join, times-append}
use Rattle.board_lock.specs.declared.view.Note.{Note}
use Rattle.board_lock.specs.Story.{Story, under, turn_of}
use Rattle.board_lock.specs.Rule.{draws_of, missed, noted, Answers}
use Rattle.board_lock.specs.Views.{Party, noting, both_of, spent, new_of}
use Rattle.board_lock.proofs.GatherLemmas.{gather-one, gather-same, gather-snoc}

abbrev Owned : Party → Type 0
Owned v = (p : ℕ) → times p v.numbers ≡ 0 → noted p v ≡ []

pub answers-set : (draws draws' : ℕ) (h h' : Story) (vs : List Party) (id : ℕ) (v w : Party) → get_elem? vs id ≡ some v → Answers draws h vs
    → w.own.notes ≡ v.own.notes → w.numbers ≡ v.numbers → h'.turns ≡ h.turns
    → ((x : ℕ) → once_below x draws' + draws_of x v ≡ once_below x draws + draws_of x w)
    → h'.missed + v.own.missed ≡ h.missed + w.own.missed
    → Answers draws' h' (set vs id w)
answers-set draws draws' h h' vs id v w e old notes numbers turns once lost = record {
  once = λ x. let t = total-set (draws_of x) vs id v w e in let o = old.once x in let k = once x in omega arith;
  missed = let t = total-set missed vs id v w e in let o = old.missed in omega arith;
  under = λ p. ap (under p) turns ∙ old.under p ∙ sym (gather-same (noted p) vs id v w e (ap (λ (ns : List Note). under p (map turn_of ns)) notes));
  own = each-set Owned vs id w (λ p z. ap (λ (ns : List Note). under p (map turn_of ns)) notes ∙ old.own id v e p (ap (times p) (sym numbers) ∙ z)) (λ j u n a. old.own j u a);
}

-- a number is one pass's alone
pub alone : (vs : List Party) (i j : ℕ) (u v : Party) (p : ℕ) → AreApart vs → i ≢ j → get_elem? vs i ≡ some u → get_elem? vs j ≡ some v → 1 ≤ times p v.numbers → times p u.numbers ≡ 0
alone vs i j u v p apart n eu ev h = let t = total-two (λ (m : Party). times p m.numbers) vs i j u v n eu ev in let o = apart p in omega arith

under-other : (p : ℕ) (t : Turn) → t.pass ≢ p → under p (t ∷ []) ≡ []
under-other p t n = go (t.pass == p) refl where
  go : (b : Bool) → (t.pass == p) ≡ b → cond b (t ∷ []) [] ≡ []
  go true e = absurd (n (grind (arith, nat_tests)))
  go false e = refl

pub noted-more : (p : ℕ) (v w : Party) (ns : List Note) → w.own.notes ≡ v.own.notes ++ ns → noted p w ≡ noted p v ++ under p (map turn_of ns)
noted-more p v w ns e = ap (λ (l : List Note). under p (map turn_of l)) e ∙ ap (under p) (map-append turn_of v.own.notes ns) ∙ filter-append (λ t. t.pass == p) (map turn_of v.own.notes) (map turn_of ns)

pub answers-note : (draws : ℕ) (h h' : Story) (vs : List Party) (id : ℕ) (v : Party) (n : Note) → get_elem? vs id ≡ some v → id < length vs → Answers draws h vs → AreApart vs
    → n.pass ≡ v.number → 1 ≤ times v.number v.numbers
    → h'.turns ≡ h.turns ++ turn_of n ∷ [] → h'.missed ≡ h.missed
    → Answers draws h' (set vs id (owning v (noting v.own h n)))
answers-note draws h h' vs id v n e within old apart pass mine turns lost = record {
  once = λ x. total-keep (draws_of x) vs id v w e refl ∙ old.once x;
  missed = total-keep missed vs id v w e refl ∙ old.missed ∙ sym lost;
  under = λ p. ap (under p) turns ∙ filter-append (λ t. t.pass == p) h.turns (turn_of n ∷ []) ∙ ap (λ (l : List Turn). l ++ under p (turn_of n ∷ [])) (old.under p) ∙ put p (ℕ_discrete v.number p);
  own = each-set Owned vs id w (λ p z. noted-more p v w (n ∷ []) refl ∙ rw (old.own id v e p z) (under-other p (turn_of n) (λ q. let k : 1 ≤ times p v.numbers = subst (λ m. 1 ≤ times m v.numbers) (sym pass ∙ q) mine in omega arith))) (λ j u k a. old.own j u a);
} where
  w : Party
  w = owning v (noting v.own h n)

  others : (p : ℕ) → v.number ≡ p → (j : ℕ) (u : Party) → j ≢ id → get_elem? vs j ≡ some u → noted p u ≡ []
  others p q j u k a = old.own j u a p (alone vs j id u v p apart k a e (subst (λ m. 1 ≤ times m v.numbers) q mine))

  put : (p : ℕ) → Dec (v.number ≡ p) → flat_map (noted p) vs ++ under p (turn_of n ∷ []) ≡ flat_map (noted p) (set vs id w)
  put p (yes q) =
      ap (λ (l : List Turn). l ++ under p (turn_of n ∷ [])) (gather-one (noted p) vs id v e (others p q))
      ∙ sym (noted-more p v w (n ∷ []) refl)
      ∙ sym (gather-one (noted p) (set vs id w) id w (set_here vs id w within) (λ j u k a. others p q j u k (sym (set_else vs id j w k) ∙ a)))
  put p (no q) =
      let none : under p (turn_of n ∷ []) ≡ [] = under-other p (turn_of n) (λ z. q (sym pass ∙ z)) in
      ap (λ (l : List Turn). flat_map (noted p) vs ++ l) none ∙ append-nil (flat_map (noted p) vs)
      ∙ sym (gather-same (noted p) vs id v w e (noted-more p v w (n ∷ []) refl ∙ ap (λ (l : List Turn). noted p v ++ l) none ∙ append-nil (noted p v)))

pub answers-cut : (draws : ℕ) (h : Story) (vs : List Party) (id n : ℕ) (v : Party) → get_elem? vs id ≡ some v → Answers draws h vs
    → Answers draws h (set vs id (owning v v.own) ++ member n (n ∷ []) (new_of v.own) ∷ [])
answers-cut draws h vs id n v e old = record {
  once = λ x. total-cut (draws_of x) vs id v l r e (omega arith) ∙ old.once x;
  missed = total-cut missed vs id v l r e (omega arith) ∙ old.missed;
  under = λ p. old.under p ∙ sym (gather-snoc (noted p) (set vs id l) r refl ∙ gather-same (noted p) vs id v l e refl);
  own = each-from Owned vs (set vs id l ++ r ∷ []) l r (old.own id v e) (λ p z. refl) old.own (from-cut vs id l r);
} where
  l : Party
  l = owning v v.own

  r : Party
  r = member n (n ∷ []) (new_of v.own)

-- a pass that took in another, and what is left of that one
abbrev pub merged : Party → Party → Party
merged v u = member v.number (v.numbers ++ u.numbers) (both_of v.own u.own)

abbrev pub gone : Party
gone = member 0 [] spent

pub answers-join : (draws : ℕ) (h : Story) (vs : List Party) (id other : ℕ) (v u : Party) → get_elem? vs id ≡ some v → id < length vs → get_elem? vs other ≡ some u → other ≢ id
    → Answers draws h vs → AreApart vs → Answers draws h (set (set vs id (merged v u)) other gone)
answers-join draws h vs id other v u e within eo far old apart = record {
  once = λ x. total-join (draws_of x) vs id other v u b gone e o (let t = times-append x v.own.draws u.own.draws in omega arith) ∙ old.once x;
  missed = total-join missed vs id other v u b gone e o (omega arith) ∙ old.missed;
  under = λ p. old.under p ∙ put p (times p v.numbers) (times p u.numbers) refl refl;
  own = each-from Owned vs last b gone (λ p z. let t = times-append p v.numbers u.numbers in noted-more p v b u.own.notes refl ∙ rw (old.own id v e p (omega arith), old.own other u eo p (omega arith)) refl) (λ p z. refl) old.own (from-join vs id other b gone);
} where
  b : Party
  b = merged v u

  first : List Party
  first = set vs id b

  last : List Party
  last = set first other gone

  o : get_elem? first other ≡ some u
  o = set_else vs id other b far ∙ eo

  here : get_elem? last id ≡ some b
  here = set_else first other id gone (λ k. far (sym k)) ∙ set_here vs id b within

  there : (p j : ℕ) (x : Party) → j ≢ id → get_elem? last j ≡ some x → (j ≢ other → get_elem? vs j ≡ some x → noted p x ≡ []) → noted p x ≡ []
  there p j x n a f = ⊎_elim (λ (y : (j ≡ other) × (gone ≡ x)). ap (noted p) (sym y.1)) (λ (y : (j ≢ other) × (get_elem? first j ≡ some x)). f y.0 (sym (set_else vs id j b n) ∙ y.1)) (at_set first other j gone x a)

  put : (p m k : ℕ) → times p v.numbers ≡ m → times p u.numbers ≡ k → flat_map (noted p) vs ≡ flat_map (noted p) last
  put p zero zero hv hu =
      let nv = old.own id v e p hv in let nu = old.own other u eo p hu in
      sym (gather-same (noted p) vs id v b e (noted-more p v b u.own.notes refl ∙ rw (nv, nu) refl))
      ∙ sym (gather-same (noted p) first other u gone o (sym nu))
  put p zero (suc k) hv hu =
      let nv = old.own id v e p hv in
      let others : (j : ℕ) (x : Party) → j ≢ other → get_elem? vs j ≡ some x → noted p x ≡ [] = λ j x n a. old.own j x a p (alone vs j other x u p apart n a eo (omega arith)) in
      gather-one (noted p) vs other u eo others
      ∙ sym (noted-more p v b u.own.notes refl ∙ ap (λ (l : List Turn). l ++ noted p u) nv)
      ∙ sym (gather-one (noted p) last id b here (λ j x n a. there p j x n a (λ n' a'. others j x n' a')))
  put p (suc m) k hv hu =
      let others : (j : ℕ) (x : Party) → j ≢ id → get_elem? vs j ≡ some x → noted p x ≡ [] = λ j x n a. old.own j x a p (alone vs j id x v p apart n a e (omega arith)) in
      gather-one (noted p) vs id v e others
      ∙ sym (noted-more p v b u.own.notes refl ∙ ap (λ (l : List Turn). noted p v ++ l) (others other u far eo) ∙ append-nil (noted p v))
      ∙ sym (gather-one (noted p) last id b here (λ j x n a. there p j x n a (λ n' a'. others j x n a')))
