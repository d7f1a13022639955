-- The table of gates as the entries of a map.
use Rattle.std.proofs.Common.{◌≡◌, ◌∙◌, ℕ, zero, suc, ◌≤◌, Bool, true, false, cond, nat_eq, ◌&&◌, Option, Some, None, List, [], ◌∷◌, ◌++◌, map, slice_get, refl, sym, ap, subst, arith, inl, inr}
use Rattle.std.proofs.lemmas.Option.{none-some, same_Some}
use Rattle.std.proofs.lemmas.Bool.{and_parts}
use Rattle.std.proofs.lemmas.Bool.Decides.{nat_tests}
use Rattle.std.specs.Map.{lookup}
use Rattle.std.specs.Prelude.{Result, Ok, Err, IfOk, IfSome, IfNone, OnErr}
use Rattle.indexmap.specs.IndexMap.{IndexMap, get, insert_entry}
use Rattle.indexmap.proofs.CallerLemmas.{insert_entry-new}
use Rattle.strash_pass.specs.declared.twins.Roots.{Roots}
use Rattle.strash_pass.specs.Twins.{Noted, Table, table_of, noted_of, AreOrdered, HasCodes, HasNote, IsPairOf, IsTwinOrNoted}

-- the test by which the map finds a pair
abbrev pub same_roots : Roots → Roots → Bool
same_roots r s = nat_eq r.low s.low && nat_eq r.high s.high

same-roots_self : (r : Roots) → same_roots r r ≡ true
same-roots_self r = grind (arith, nat_tests)

exact-roots : (r s : Roots) → same_roots r s ≡ true → (s.low ≡ r.low) × (s.high ≡ r.high)
exact-roots r s e =
    let p = and_parts (nat_eq r.low s.low) (nat_eq r.high s.high) e in
    (grind (arith, nat_tests), grind (arith, nat_tests))

abbrev notes_of : List (Roots × ℕ) → List Noted
notes_of es = map noted_of es

-- a gate that the map finds is noted
record Finds (es : List (Roots × ℕ)) (r : Roots) (twin : ℕ) : Type 0 where
  place : ℕ
  note : Noted
  at : slice_get (notes_of es) place ≡ Some note
  low : note.low ≡ r.low
  high : note.high ≡ r.high
  gate : note.gate ≡ twin

finds : (r : Roots) (es : List (Roots × ℕ)) (twin : ℕ) → lookup (same_roots r) es ≡ Some twin → Finds es r twin
finds r [] twin e = absurd (none-some twin e)
finds r (x ∷ es) twin e = go (same_roots r x.0) refl (finds r es twin)
  where
    go : (b : Bool) → same_roots r x.0 ≡ b → (lookup (same_roots r) es ≡ Some twin → Finds es r twin) → Finds (x ∷ es) r twin
    go true f later =
        let p = exact-roots r x.0 f in
        let g = same_Some x.1 twin (sym (ap (λ (b : Bool). cond b (Some x.1) (lookup (same_roots r) es)) f) ∙ e) in
        record { place = 0; note = noted_of x; at = refl; low = p.0; high = p.1; gate = g }
    go false f later =
        let rest = later (sym (ap (λ (b : Bool). cond b (Some x.1) (lookup (same_roots r) es)) f) ∙ e) in
        record { place = suc rest.place; note = rest.note; at = rest.at; low = rest.low; high = rest.high; gate = rest.gate }

-- where the map has none, none is noted with these codes, the lesser one first
none-noted : (r : Roots) (es : List (Roots × ℕ)) → lookup (same_roots r) es ≡ None → (i : ℕ) (n : Noted) → slice_get (notes_of es) i ≡ Some n
    → n.low ≡ r.low → n.high ≡ r.high → ⊥
none-noted r [] e i n at l h = none-some n at
none-noted r (x ∷ es) e zero n at l h =
    let is = same_Some (noted_of x) n at in
    let t : same_roots r x.0 ≡ true = met is in
    none-some x.1 (sym e ∙ ap (λ (b : Bool). cond b (Some x.1) (lookup (same_roots r) es)) t)
  where
    met : noted_of x ≡ n → same_roots r x.0 ≡ true
    met is =
        let low : x.0.low ≡ r.low = ap (λ (m : Noted). m.low) is ∙ l in
        let high : x.0.high ≡ r.high = ap (λ (m : Noted). m.high) is ∙ h in
        rw (low, high) (same-roots_self r)
none-noted r (x ∷ es) e (suc i) n at l h = go (same_roots r x.0) refl (none-noted r es)
  where
    go : (b : Bool) → same_roots r x.0 ≡ b
        → (lookup (same_roots r) es ≡ None → (i : ℕ) (n : Noted) → slice_get (notes_of es) i ≡ Some n → n.low ≡ r.low → n.high ≡ r.high → ⊥) → ⊥
    go true f later = none-some x.1 (sym e ∙ ap (λ (b : Bool). cond b (Some x.1) (lookup (same_roots r) es)) f)
    go false f later = later (sym (ap (λ (b : Bool). cond b (Some x.1) (lookup (same_roots r) es)) f) ∙ e) i n at l h

-- each note has its lesser code first
ordered-at : (es : List (Roots × ℕ)) → AreOrdered es → (i : ℕ) (n : Noted) → slice_get (notes_of es) i ≡ Some n → n.low ≤ n.high
ordered-at [] o i n at = absurd (none-some n at)
ordered-at (x ∷ es) o zero n at = subst (λ (m : Noted). m.low ≤ m.high) (same_Some (noted_of x) n at) o.0
ordered-at (x ∷ es) o (suc i) n at = ordered-at es o.1 i n at

-- so none is noted with them in the other order either
none-either : (r : Roots) (a b : ℕ) (es : List (Roots × ℕ)) → AreOrdered es → r.low ≤ r.high → IsPairOf r a b → lookup (same_roots r) es ≡ None
    → HasNote (notes_of es) a b → ⊥
none-either r a b es o le pair e h = go pair h.codes
  where
    order : h.note.low ≤ h.note.high
    order = ordered-at es o h.place h.note h.at

    go : IsPairOf r a b → HasCodes h.note a b → ⊥
    go (inl p) (inl c) = none-noted r es e h.place h.note h.at (c.0 ∙ sym p.0) (c.1 ∙ sym p.1)
    go (inl p) (inr c) = none-noted r es e h.place h.note h.at (omega (arith, order, le, c.0, c.1, p.0, p.1)) (omega (arith, order, le, c.0, c.1, p.0, p.1))
    go (inr p) (inl c) = none-noted r es e h.place h.note h.at (omega (arith, order, le, c.0, c.1, p.0, p.1)) (omega (arith, order, le, c.0, c.1, p.0, p.1))
    go (inr p) (inr c) = none-noted r es e h.place h.note h.at (c.0 ∙ sym p.0) (c.1 ∙ sym p.1)

codes-found : (r : Roots) (n : Noted) (a b : ℕ) → IsPairOf r a b → n.low ≡ r.low → n.high ≡ r.high → HasCodes n a b
codes-found r n a b (inl p) l h = inl (l ∙ p.0, h ∙ p.1)
codes-found r n a b (inr p) l h = inr (l ∙ p.0, h ∙ p.1)

notes-append : (es fs : List (Roots × ℕ)) → notes_of (es ++ fs) ≡ notes_of es ++ notes_of fs
notes-append [] fs = refl
notes-append (x ∷ es) fs = ap (λ (l : List Noted). noted_of x ∷ l) (notes-append es fs)

-- one more entry
pub ordered-more : (es more : List (Roots × ℕ)) (r : Roots) (gate : ℕ) → AreOrdered es → r.low ≤ r.high → more ≡ es ++ (r, gate) ∷ []
    → AreOrdered more
ordered-more es more r gate o le e = subst AreOrdered (sym e) (go es o)
  where
    go : (l : List (Roots × ℕ)) → AreOrdered l → AreOrdered (l ++ (r, gate) ∷ [])
    go [] o = (le, tt)
    go (x ∷ l) o = (o.0, go l o.1)

-- a gate that was noted is found
pub twin-found : (old new : Table) (es : List (Roots × ℕ)) (r : Roots) (a b gate twin : ℕ) → table_of es ≡ old → new ≡ old → IsPairOf r a b
    → lookup (same_roots r) es ≡ Some twin → IsTwinOrNoted old a b gate new (Some twin)
twin-found old new es r a b gate twin view same pair e =
    let f = finds r es twin e in (
      record {
        place = f.place;
        note = f.note;
        at = ap (λ (t : Table). slice_get t.notes f.place) (sym view) ∙ f.at;
        codes = codes-found r f.note a b pair f.low f.high;
      },
      f.gate,
      same,
    )

-- where none was, this one is noted
pub twin-noted : (old : Table) (es more : List (Roots × ℕ)) (r : Roots) (a b gate : ℕ) → table_of es ≡ old → AreOrdered es → r.low ≤ r.high
    → IsPairOf r a b → lookup (same_roots r) es ≡ None → more ≡ es ++ (r, gate) ∷ [] → IsTwinOrNoted old a b gate (table_of more) None
twin-noted old es more r a b gate view o le pair e is =
    let notes = ap (λ (t : Table). t.notes) view in (
      λ h. none-either r a b es o le pair e
          (record { place = h.place; note = h.note; at = ap (λ (l : List Noted). slice_get l h.place) notes ∙ h.at; codes = h.codes }),
      noted_of (r, gate),
      pair,
      refl,
      ap table_of is
          ∙ ap (λ (l : List Noted). record { notes = l }) (notes-append es ((r, gate) ∷ []) ∙ ap (λ (l : List Noted). l ++ noted_of (r, gate) ∷ []) notes),
    )

module _ {S E : Type 0} (m n : IndexMap Roots ℕ S) (r : Roots) (gate : ℕ) where
  -- what the map has after it was asked for these roots
  pub twin-result : (old : Table) (a b : ℕ) → table_of m.entries ≡ old → AreOrdered m.entries → r.low ≤ r.high → IsPairOf r a b
      → (o : Result (Option ℕ) E) → IfOk o (λ x. x ≡ get same_roots m r)
      → IfOk o (λ x. IfNone x (n.entries ≡ insert_entry same_roots m.entries r gate)) → IfOk o (λ x. IfSome x (λ g. n.entries ≡ m.entries))
      → IfOk o (IsTwinOrNoted old a b gate (table_of n.entries))
  twin-result old a b view ordered le pair (Ok (Some g)) first noted found =
      twin-found old (table_of n.entries) m.entries r a b gate g view (ap table_of found ∙ view) pair (sym first)
  twin-result old a b view ordered le pair (Ok None) first noted found =
      twin-noted old m.entries n.entries r a b gate view ordered le pair (sym first) (noted ∙ insert_entry-new same_roots m r gate (sym first))
  twin-result old a b view ordered le pair (Err e) first noted found = tt

  -- the lesser codes still come first
  pub ordered-result : AreOrdered m.entries → r.low ≤ r.high → (o : Result (Option ℕ) E) → IfOk o (λ x. x ≡ get same_roots m r)
      → IfOk o (λ x. IfNone x (n.entries ≡ insert_entry same_roots m.entries r gate)) → IfOk o (λ x. IfSome x (λ g. n.entries ≡ m.entries))
      → OnErr o (n.entries ≡ m.entries) → AreOrdered n.entries
  ordered-result ordered le (Ok (Some g)) first noted found err = subst AreOrdered (sym found) ordered
  ordered-result ordered le (Ok None) first noted found err =
      ordered-more m.entries n.entries r gate ordered le (noted ∙ insert_entry-new same_roots m r gate (sym first))
  ordered-result ordered le (Err e) first noted found err = subst AreOrdered (sym err) ordered
