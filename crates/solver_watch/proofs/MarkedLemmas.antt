-- The steps of an analysis: one more place, one more clause.
use Rattle.std.proofs.Common.{◌≡◌, ◌<◌, ◌≤◌, ◌+◌, ℕ, arith, Bool, true, false, not, ◌||◌, ◌⊎◌, inl, inr, List, [], ◌∷◌, ◌++◌, nat_eq, get_or, set, length, refl, sym, ap, subst, ◌∙◌, length-set}
use Rattle.lits.specs.Clause.{has, no_repeat}
use Rattle.lits.proofs.Facts.{lit_laws}
use Rattle.unit_prop.proofs.Facts.{contrary}
use Rattle.std.proofs.Math.Nat.{eq-or-lt_of_le}
use Rattle.std.proofs.lemmas.List.Elements.{All-get_or}
use Rattle.std.proofs.lemmas.Bool.{or_cases, or_left, or_right, and_parts, not-true}
use Rattle.std.proofs.Math.Bool.{or-false, or_assoc}
use Rattle.lits.specs.Same.{same_lit, opposite}
use Rattle.lits.specs.declared.literal.Lit.{Lit}
use Rattle.flat_base.specs.Codes.{lit_at, IsCode}
use Rattle.watch_lists.specs.Codes.{flip, AreCodesOf}
use Rattle.watch_lists.specs.Trail.{TrailState, IsTrail, put_at, lits_of}
use Rattle.watch_lists.specs.declared.put.Put.{Put}
use Rattle.watch_lists.proofs.Facts.{lit_at-flip, flip-code, same_exact}
use Rattle.solver_watch.specs.declared.cut.Cut.{Cut}
use Rattle.solver_watch.specs.Marked.{is_marked, open_below, Keeps, IsMet, IsCounted, MarksOne, IsMarking}
use Rattle.solver_watch.proofs.TrailLemmas.{has-at, place-one}
use Rattle.solver_watch.proofs.CodeLemmas.{code-of, has-code}
use Rattle.solver_watch.proofs.CountLemmas.{true-same, marked-other, marked-same, open-set, open-most}

-- a place of a set of marks with one more
pub marks-one : (marks new : List Bool) (place : ℕ) → place < length marks → new ≡ set marks place true → MarksOne marks place new
marks-one marks new place h e = subst (λ (ms : List Bool). MarksOne marks place ms) (sym e) (record {
  here = marked-same marks place h;
  keeps = λ k m. keeps_at k m (nat_eq k place) refl;
  fresh = λ k m. fresh_at k m (nat_eq k place) refl;
})
  where
    keeps_at : (k : ℕ) → is_marked marks k ≡ true → (b : Bool) → nat_eq k place ≡ b → is_marked (set marks place true) k ≡ true
    keeps_at k m true f = ap (is_marked (set marks place true)) (same_exact k place f) ∙ marked-same marks place h
    keeps_at k m false f = marked-other marks place k (λ g. contrary _ (true-same k place g) f) ∙ m

    fresh_at : (k : ℕ) → is_marked (set marks place true) k ≡ true → (b : Bool) → nat_eq k place ≡ b
        → (is_marked marks k ≡ true) ⊎ (k ≡ place)
    fresh_at k m true f = inr (same_exact k place f)
    fresh_at k m false f = inl (sym (marked-other marks place k (λ g. contrary _ (true-same k place g) f)) ∙ m)

pub same-one : (marks : List Bool) (place : ℕ) → is_marked marks place ≡ true → MarksOne marks place marks
same-one marks place h = record { here = h; keeps = λ k m. m; fresh = λ k m. inl m }

append-test : (xs : List ℕ) (p k : ℕ) → has nat_eq (xs ++ p ∷ []) k ≡ (has nat_eq xs k || nat_eq p k)
append-test [] p k = or-false (nat_eq p k)
append-test (x ∷ xs) p k = rw (append-test xs p k) (sym (or_assoc (nat_eq x k) (has nat_eq xs k) (nat_eq p k)))

-- one more that isn't there
once-push : (xs : List ℕ) (p : ℕ) → no_repeat nat_eq xs ≡ true → has nat_eq xs p ≡ false → no_repeat nat_eq (xs ++ p ∷ []) ≡ true
once-push [] p once none = refl
once-push (x ∷ xs) p once none =
    let parts = and_parts (not (has nat_eq xs x)) (no_repeat nat_eq xs) once in
    go (nat_eq x p) (nat_eq p x) refl refl (not-true _ parts.0) (λ rest. once-push xs p parts.1 rest)
  where
    go : (a b : Bool) → nat_eq x p ≡ a → nat_eq p x ≡ b → has nat_eq xs x ≡ false
        → (has nat_eq xs p ≡ false → no_repeat nat_eq (xs ++ p ∷ []) ≡ true) → no_repeat nat_eq (x ∷ (xs ++ p ∷ [])) ≡ true
    go true b e f fresh rec = contrary _ (or_left _ _ e) none
    go false true e f fresh rec = contrary _ (true-same x p (sym (same_exact p x f))) e
    go false false e f fresh rec = rw (append-test xs p x, fresh, f, rec (rw e at none)) refl

module _ (puts : List Put) (level : ℕ) (old new : Cut) (place : ℕ) (counted : IsCounted puts level old) (within : place < length puts)
    (free : is_marked old.marks place ≡ false) (marks : new.marks ≡ set old.marks place true) where
  inside : place < length old.marks
  inside = let r = counted.room in omega arith

  one : MarksOne old.marks place new.marks
  one = marks-one old.marks new.marks place inside marks

  room_new : length puts ≤ length new.marks
  room_new = let r = counted.room in omega (arith, ap length marks, length-set old.marks place true)

  other-marked : (k : ℕ) → nat_eq k place ≡ false → is_marked new.marks k ≡ is_marked old.marks k
  other-marked k f = ap (λ (ms : List Bool). is_marked ms k) marks ∙ marked-other old.marks place k (λ g. contrary _ (true-same k place g) f)

  pub counted-open : nat_eq (put_at puts place).level level ≡ true → new.count ≡ old.count + 1 → new.below.items ≡ old.below.items
      → IsCounted puts level new
  counted-open at count below = record {
    room = room_new;
    all = λ k h m other. all_at k h m other (nat_eq k place) refl;
    only = λ k h. only_at k (counted.only k (sym (ap (λ (xs : List ℕ). has nat_eq xs k) below) ∙ h));
    once = ap (no_repeat nat_eq) below ∙ counted.once;
    count = count ∙ rw (marks, open-set puts level old.marks place (length puts) within inside free, at) (ap (λ (n : ℕ). n + 1) counted.count);
  }
    where
      all_at : (k : ℕ) → k < length puts → is_marked new.marks k ≡ true → nat_eq (put_at puts k).level level ≡ false
          → (b : Bool) → nat_eq k place ≡ b → has nat_eq new.below.items k ≡ true
      all_at k h m other true f = contrary _ (ap (λ (j : ℕ). nat_eq (put_at puts j).level level) (same_exact k place f) ∙ at) other
      all_at k h m other false f =
          ap (λ (xs : List ℕ). has nat_eq xs k) below ∙ counted.all k h (sym (other-marked k f) ∙ m) other

      only_at : (k : ℕ) → (k < length puts) × (is_marked old.marks k ≡ true) × (nat_eq (put_at puts k).level level ≡ false)
          → (k < length puts) × (is_marked new.marks k ≡ true) × (nat_eq (put_at puts k).level level ≡ false)
      only_at k w = (w.0, one.keeps k w.1, w.2)

  pub counted-below : nat_eq (put_at puts place).level level ≡ false → new.count ≡ old.count → new.below.items ≡ old.below.items ++ place ∷ []
      → IsCounted puts level new
  counted-below at count below = record {
    room = room_new;
    all = λ k h m other. ap (λ (xs : List ℕ). has nat_eq xs k) below ∙ append-test old.below.items place k ∙ all_at k h m other (nat_eq k place) refl;
    only = λ k h. only_at k (or_cases _ _ (sym (append-test old.below.items place k) ∙ sym (ap (λ (xs : List ℕ). has nat_eq xs k) below) ∙ h));
    once = ap (no_repeat nat_eq) below ∙ once-push old.below.items place counted.once (new_place (has nat_eq old.below.items place) refl);
    count = count ∙ rw (marks, open-set puts level old.marks place (length puts) within inside free, at) (plus counted.count);
  }
    where
      new_place : (b : Bool) → has nat_eq old.below.items place ≡ b → has nat_eq old.below.items place ≡ false
      new_place false e = e
      new_place true e = contrary _ (counted.only place e).1 free

      plus : {a b : ℕ} → a ≡ b → a ≡ b + 0
      plus e = omega arith

      all_at : (k : ℕ) → k < length puts → is_marked new.marks k ≡ true → nat_eq (put_at puts k).level level ≡ false
          → (b : Bool) → nat_eq k place ≡ b → (has nat_eq old.below.items k || nat_eq place k) ≡ true
      all_at k h m other true f = or_right (has nat_eq old.below.items k) _ (true-same place k (sym (same_exact k place f)))
      all_at k h m other false f = or_left _ _ (counted.all k h (sym (other-marked k f) ∙ m) other)

      only_at : (k : ℕ) → (has nat_eq old.below.items k ≡ true) ⊎ (nat_eq place k ≡ true)
          → (k < length puts) × (is_marked new.marks k ≡ true) × (nat_eq (put_at puts k).level level ≡ false)
      only_at k (inl h) = let w = counted.only k h in (w.0, one.keeps k w.1, w.2)
      only_at k (inr h) = subst (λ (j : ℕ). (j < length puts) × (is_marked new.marks j ≡ true) × (nat_eq (put_at puts j).level level ≡ false))
          (same_exact place k h) (within, one.here, at)

-- the count of the level's places is no more than there are
pub count-most : (puts : List Put) (level : ℕ) (old : Cut) (place : ℕ) → IsCounted puts level old → place < length puts
    → is_marked old.marks place ≡ false → nat_eq (put_at puts place).level level ≡ true → old.count + 1 ≤ length puts
count-most puts level old place counted within free at =
    let inside : place < length old.marks = (let r = counted.room in omega arith) in
    let most = open-most puts level (set old.marks place true) (length puts) in
    let e : open_below puts level (set old.marks place true) (length puts) ≡ open_below puts level old.marks (length puts) + 1 =
    open-set puts level old.marks place (length puts) within inside free ∙ rw at refl in
    let c = counted.count in omega arith

-- how far the marking of a clause's negations has come
pub record IsMarkingSome (t : TrailState) (clause : List Lit) (codes : List ℕ) (i : ℕ) (old new : Cut) : Type 0 where
  pub counted : IsCounted t.puts t.last new
  pub met : (j : ℕ) → j < i → IsMet t.puts new.marks (lit_at t.nodes (flip (get_or codes j 0)))
  pub keeps : Keeps old.marks new.marks
  pub fresh : (k : ℕ) → k < length t.puts → is_marked new.marks k ≡ true
      → (is_marked old.marks k ≡ true) ⊎ (has same_lit clause (opposite (put_at t.puts k).lit) ≡ true)

pub met-keeps : (puts : List Put) (old new : List Bool) (l : Lit) → Keeps old new → IsMet puts old l → IsMet puts new l
met-keeps puts old new l keeps met k h e = keeps k (met k h e)

module _ (t : TrailState) (trail : IsTrail t) (clause : List Lit) (codes : List ℕ) (of : AreCodesOf t.nodes clause codes) (i : ℕ) (old now : Cut)
    (below : i < length codes) (so_far : IsMarkingSome t clause codes i old now) where
  split_at : (j : ℕ) → j < i + 1 → (j < i) ⊎ (j ≡ i)
  split_at j h = elim (eq-or-lt_of_le (let le : j ≤ i = omega arith in le)) [ inl e ↦ inr e | inr l ↦ inl l ]

  -- the negation of the next literal isn't there
  pub marking-skip : has same_lit (lits_of t.puts) (lit_at t.nodes (flip (get_or codes i 0))) ≡ false
      → IsMarkingSome t clause codes (i + 1) old now
  marking-skip none = record {
    counted = so_far.counted;
    met = λ j h. which j (split_at j h);
    keeps = so_far.keeps;
    fresh = so_far.fresh;
  }
    where
      which : (j : ℕ) → (j < i) ⊎ (j ≡ i) → IsMet t.puts now.marks (lit_at t.nodes (flip (get_or codes j 0)))
      which j (inl h) = so_far.met j h
      which j (inr e) = λ k h at.
          contrary _ (has-at t.puts k h) (ap (has same_lit (lits_of t.puts)) (at ∙ ap (λ (m : ℕ). lit_at t.nodes (flip (get_or codes m 0))) e) ∙ none)

  -- it is there, and marked now
  pub marking-next : (new : Cut) (place : ℕ) → place < length t.puts
      → (put_at t.puts place).lit ≡ lit_at t.nodes (flip (get_or codes i 0))
      → IsCounted t.puts t.last new → MarksOne now.marks place new.marks → IsMarkingSome t clause codes (i + 1) old new
  marking-next new place within at counted one = record {
    counted = counted;
    met = λ j h. which j (split_at j h);
    keeps = λ k m. one.keeps k (so_far.keeps k m);
    fresh = λ k h m. from k h (one.fresh k m);
  }
    where
      which : (j : ℕ) → (j < i) ⊎ (j ≡ i) → IsMet t.puts new.marks (lit_at t.nodes (flip (get_or codes j 0)))
      which j (inl h) = met-keeps t.puts now.marks new.marks _ one.keeps (so_far.met j h)
      which j (inr e) = λ k h is.
          let same : k ≡ place = place-one t.puts k place trail.single h within
          (is ∙ ap (λ (m : ℕ). lit_at t.nodes (flip (get_or codes m 0))) e ∙ sym at) in
          subst (λ (m : ℕ). is_marked new.marks m ≡ true) (sym same) one.here

      inside : has same_lit clause (opposite (put_at t.puts place).lit) ≡ true
      inside =
          ap (λ (l : Lit). has same_lit clause (opposite l)) at
          ∙ ap (λ (l : Lit). has same_lit clause (opposite l)) (lit_at-flip t.nodes (get_or codes i 0))
          ∙ ap (has same_lit clause) (lit_laws.twice (lit_at t.nodes (get_or codes i 0)))
          ∙ sym (of.same (lit_at t.nodes (get_or codes i 0)))
          ∙ has-code t.nodes codes i below

      from : (k : ℕ) → k < length t.puts → (is_marked now.marks k ≡ true) ⊎ (k ≡ place)
          → (is_marked old.marks k ≡ true) ⊎ (has same_lit clause (opposite (put_at t.puts k).lit) ≡ true)
      from k h (inl m) = so_far.fresh k h m
      from k h (inr e) = inr (subst (λ (m : ℕ). has same_lit clause (opposite (put_at t.puts m).lit) ≡ true) (sym e) inside)

pub marking-end : (t : TrailState) (clause : List Lit) (codes : List ℕ) (i : ℕ) (old now : Cut) → AreCodesOf t.nodes clause codes
    → length codes ≤ i → IsMarkingSome t clause codes i old now → IsMarking t clause old now
marking-end t clause codes i old now of all so_far = record {
  counted = so_far.counted;
  met = λ l h. met_at l (code-of t.nodes codes l (of.same l ∙ h));
  keeps = so_far.keeps;
  fresh = so_far.fresh;
}
  where
    met_at : (l : Lit) → (j : ℕ) × (j < length codes) × (lit_at t.nodes (get_or codes j 0) ≡ l) → IsMet t.puts now.marks (opposite l)
    met_at l w = subst (λ (m : Lit). IsMet t.puts now.marks m) (lit_at-flip t.nodes (get_or codes w.0 0) ∙ ap opposite w.2)
        (so_far.met w.0 (omega (arith, w.1)))

pub code-at : (t : TrailState) (clause : List Lit) (codes : List ℕ) (i : ℕ) → AreCodesOf t.nodes clause codes → i < length codes
    → IsCode t.nodes (flip (get_or codes i 0))
code-at t clause codes i of h = flip-code t.nodes (get_or codes i 0) (All-get_or (IsCode t.nodes) codes i 0 h of.within)
