-- The kept book grows by one entry or none with each entry of the old one, and each is good.
use Rattle.std.proofs.Common.{◌≡◌, ℕ, zero, suc, ◌+◌, ◌<◌, ◌≤◌, Bool, true, false, cond, Result, Ok, OnOk, Option, Some, None, List, [], ◌∷◌, ◌++◌, length, map, take, refl, sym, ap, ◌∙◌, subst, inl, inr, arith}
use Rattle.std.specs.Prelude.{◌||◌, slice_get, is_some, IfSome}
use Rattle.std.specs.Option.{option_map, option_map_or, option_and_then}
use Rattle.std.specs.List.{list_any, list_all, flat_map}
use Rattle.std.proofs.lemmas.List.{append-nil, append_assoc, length-map, length-take-le, map-append, length-append, take_all}
use Rattle.std.proofs.Math.Seq.{take-length}
use Rattle.std.proofs.Math.Bool.{or-false}
use Rattle.std.proofs.lemmas.List.Folds.{list_any-append}
use Rattle.lits.proofs.Facts.{take_next}
use Rattle.std.proofs.lemmas.Bool.{and_parts, cases_lt}
use Rattle.std.proofs.lemmas.Option.{none-some, same_Some, slice_get-map, slice_get_within, slice_get_past}
use Rattle.lits.specs.declared.node.Node.{Node}
use Rattle.lits.specs.declared.step.Ref.{Ref}
use Rattle.lits.specs.declared.step.Ref.TheVariants.{Axiom, Entry as Shown, Own, Bound}
use Rattle.lits.specs.declared.step.Step.{Step}
use Rattle.netlist.specs.Net.{AigPair, IsNet}
use Rattle.netlist.proofs.Facts.{equal-number, slice_get-left, slice_get-right}
use Rattle.unit_prop.specs.Log.{InTurn}
use Rattle.lemma_book.specs.declared.entry.Entry.{Entry}
use Rattle.lemma_book.specs.declared.entry.Entry.TheVariants.{Merge, Apart, Spent, Out, OutApart, OutSpent}
use Rattle.lemma_book.specs.declared.entry.Subject.{Subject}
use Rattle.lemma_book.specs.declared.refused.Offered.{Offered}
use Rattle.lemma_book.specs.Entry.{Entries, answer_of, is_on, first_entries, settled_at, with_last}
use Rattle.lemma_book.specs.Book.{IsLegal, book_after}
use Rattle.lemma_book.specs.Good.{IsGood, Already}
use Rattle.lemma_book.proofs.Facts.{IsGoodAfter}
use Rattle.netlist_edits.specs.declared.edit.Edit.{Edit}
use Rattle.netlist_edits.specs.declared.edit.Edit.TheVariants as edit
use Rattle.netlist_edits.specs.Edited.{edited_all, touched, touched_by}
use Rattle.keep_lemmas.specs.Kept.{is_clear, hint_stays, step_stays, entry_stays, stays_among, stays, count_before, at_places, renewed_hint, renewed_step, renewed, chosen, kept, input_in, handed_out}
use Rattle.keep_lemmas.specs.Keeping.{touched_node, is_node, is_numbered, number_in, number_of, AreNumbers, kept_entry, kept_at, kept_first, with_some, is_current, is_current_hint, is_current_step}
use Rattle.keep_lemmas.proofs.KeptPlaces.{among-below, stays-among, stays-at_place, at_places-get, at_places-length, at_places-last, at_places-none}
use Rattle.keep_lemmas.proofs.KeptEntries.{on-renewed, good-stays}
use Rattle.keep_lemmas.proofs.EditedNets.{edits-stay, NetStays}

in_turn-at : {X : Type 0} (P : List X → X → Type 0) (before xs : List X) (k : ℕ) (x : X) → InTurn P before xs → slice_get xs k ≡ Some x
    → P (before ++ take k xs) x
in_turn-at P before [] k x all e = absurd (none-some x e)
in_turn-at P before (y ∷ ys) zero x all e =
    let same = same_Some y x e in
    subst (λ (b : List _). P b x) (sym (append-nil before)) (subst (P before) same all.0)
in_turn-at P before (y ∷ ys) (suc k) x all e =
    subst (λ (b : List _). P b x) (append_assoc before (y ∷ []) (take k ys)) (in_turn-at P (before ++ y ∷ []) ys k x all.1 e)

element : {X : Type 0} (xs : List X) (k : ℕ) → k < length xs → (x : X) × (slice_get xs k ≡ Some x)
element [] k below = absurd (omega arith)
element (x ∷ xs) zero below = (x, refl)
element (x ∷ xs) (suc k) below = element xs k (omega arith)

-- ---- entries that stay are good

-- an entry of a legal book that stays is good over those that stayed before it
pub kept-good : (old new : AigPair) (edits : List Edit) (book : Entries) (n : ℕ) (e : Entry) → IsNet new → new ≡ edited_all old edits → IsLegal old book
    → slice_get book.entries n ≡ Some e → stays old (touched_by edits) book.entries n ≡ true
    → IsGood new (kept_first old edits book n) (renewed (count_before (stays old (touched_by edits) book.entries)) e)
kept-good old new edits book n e is same legal at stay =
    good-stays t old new is nets (take n es) (chosen set (take n es)) (stays_among old t es n) (count_before set) found only book.sweep_budget book.out_budget e
    (sym (stays-at_place old t es n e at) ∙ stay)
    (in_turn-at (IsGoodAfter old book.sweep_budget book.out_budget) [] es n e legal at)
  where
    t : Node → Bool
    t = touched_by edits

    es : List Entry
    es = book.entries

    set : ℕ → Bool
    set = stays old t es

    nets : NetStays t old new
    nets = subst (λ (m : AigPair). NetStays t old m) (sym same) (edits-stay old edits)

    found : (i : ℕ) (x : Entry) → stays_among old t es n i ≡ true → slice_get (take n es) i ≡ Some x
        → slice_get (chosen set (take n es)) (count_before set i) ≡ Some (renewed (count_before set) x)
    found i x e there =
        let inside = slice_get_within es n _ at in
        slice_get-map (renewed (count_before set)) (at_places set (take n es)) (count_before set i)
        ∙ ap (option_map (renewed (count_before set)))
        (at_places-get set (take n es) i x (stays-among old t es n i (omega (arith, inside)) (among-below old t es n i e) ∙ e) there)

    only : (s : Subject) → list_any (is_on s) (take n es) ≡ false → list_any (is_on s) (chosen set (take n es)) ≡ false
    only s none = on-renewed (count_before set) s (at_places set (take n es)) ∙ at_places-none set (is_on s) (take n es) none

-- ---- the new book, entry by entry

-- over all entries
pub good-all : (net : AigPair) (book : Entries) (e : Entry) → IsGood net book e → IsGood net (first_entries (length book.entries) book) e
good-all net book e good =
    subst (λ (es : List Entry). IsGood net (record { sweep_budget = book.sweep_budget; out_budget = book.out_budget; entries = es }) e)
    (sym (take-length book.entries)) good

-- what is good is settled by no other entry
pub after-good : (net : AigPair) (book : Entries) (e : Entry) → IsGood net book e → book_after book e ≡ with_last book e
after-good net book e good = let free : settled_at book.entries e ≡ None = good Already in rw free refl

-- where the numbers agree that an entry's hints name, it is renewed alike
module _ (net : AigPair) (t : Node → Bool) (set : ℕ → Bool) (f g : ℕ → ℕ) (same : (i : ℕ) → set i ≡ true → f i ≡ g i) where
  hint-alike : (h : Ref) → hint_stays net t set h ≡ true → renewed_hint f h ≡ renewed_hint g h
  hint-alike (Axiom node k) stay = refl
  hint-alike (Shown i k) stay = ap (λ (n : ℕ). Shown n k) (same i stay)
  hint-alike (Own k) stay = refl
  hint-alike (Bound side k) stay = refl

  hints-alike : (hs : List Ref) → list_all (hint_stays net t set) hs ≡ true → map (renewed_hint f) hs ≡ map (renewed_hint g) hs
  hints-alike [] stay = refl
  hints-alike (h ∷ hs) stay =
      let both = and_parts (hint_stays net t set h) (list_all (hint_stays net t set) hs) stay in
      rw (hint-alike h both.0, hints-alike hs both.1) refl

  steps-alike : (ss : List Step) → list_all (step_stays net t set) ss ≡ true → map (renewed_step f) ss ≡ map (renewed_step g) ss
  steps-alike [] stay = refl
  steps-alike (s ∷ ss) stay =
      let both = and_parts (step_stays net t set s) (list_all (step_stays net t set) ss) stay in
      let hints = (and_parts (is_clear t s.clause) (list_all (hint_stays net t set) s.hints) both.0).1 in
      rw (hints-alike s.hints hints, steps-alike ss both.1) refl

  entry-alike : (e : Entry) → entry_stays net t set e ≡ true → renewed f e ≡ renewed g e
  entry-alike (Merge node lit steps) stay = ap (Merge node lit) (steps-alike steps stay)
  entry-alike (Out j steps) stay = ap (Out j) (steps-alike steps stay)
  entry-alike (Apart node lit input) stay = refl
  entry-alike (Spent node lit seen log) stay = refl
  entry-alike (OutApart j input) stay = refl
  entry-alike (OutSpent j seen log) stay = refl

module _ (net : AigPair) (edits : List Edit) (book : Entries) where
  abbrev t : Node → Bool
  t = touched_by edits

  abbrev es : List Entry
  es = book.entries

  abbrev set : ℕ → Bool
  set = stays net (touched_by edits) book.entries

  -- which entries have numbers
  numbered-same : (n : ℕ) (numbers : List (Option ℕ)) → n ≤ length es → AreNumbers set n numbers → (i : ℕ)
      → is_numbered numbers i ≡ stays_among net t es n i
  numbered-same n numbers within are i = elim (cases_lt i n) [
    | inl less ↦
        ap (λ (o : Option (Option ℕ)). option_map_or is_some o false) (are.each i less)
        ∙ has_number (set i) ∙ stays-among net t es n i within less
    | inr more ↦
        ap (λ (o : Option (Option ℕ)). option_map_or is_some o false) (slice_get_past numbers i (omega (arith, are.count, more)))
        ∙ later (stays_among net t es n i) refl more
  ]
    where
      has_number : (b : Bool) → is_some (cond b (Some (count_before set i)) None) ≡ b
      has_number true = refl
      has_number false = refl

      later : (b : Bool) → stays_among net t es n i ≡ b → n ≤ i → false ≡ b
      later true e more = let less = among-below net t es n i e in absurd (omega arith)
      later false e more = refl

  -- the entry at place n, as it is kept
  pub entry-next : (n : ℕ) (e : Entry) (numbers : List (Option ℕ)) → slice_get es n ≡ Some e → AreNumbers set n numbers
      → kept_entry net t numbers e ≡ cond (set n) (Some (renewed (count_before set) e)) None
  entry-next n e numbers at are = go (set n) (stays-at_place net t es n e at)
    where
      within : n ≤ length es
      within = let inside = slice_get_within es n e at in omega (arith, inside)

      same : is_numbered numbers ≡ stays_among net t es n
      same = λ k i. numbered-same n numbers within are i k

      there : (i : ℕ) → stays_among net t es n i ≡ true → number_in numbers i ≡ count_before set i
      there i stay =
          let less = among-below net t es n i stay in
          ap (λ (o : Option (Option ℕ)). option_map_or (λ p. option_map_or (λ m. m) p 0) o 0) (are.each i less)
          ∙ ap (λ (b : Bool). option_map_or (λ m. m) (cond b (Some (count_before set i)) None) 0) (stays-among net t es n i within less ∙ stay)

      go : (b : Bool) → b ≡ entry_stays net t (stays_among net t es n) e
          → kept_entry net t numbers e ≡ cond b (Some (renewed (count_before set) e)) None
      go b f = ap (λ (p : ℕ → Bool). cond (entry_stays net t p e) (Some (renewed (number_in numbers) e)) None) same ∙ last b f
        where
          last : (b : Bool) → b ≡ entry_stays net t (stays_among net t es n) e
              → cond (entry_stays net t (stays_among net t es n) e) (Some (renewed (number_in numbers) e)) None
              ≡ cond b (Some (renewed (count_before set) e)) None
          last true f =
              ap (λ (b : Bool). cond b (Some (renewed (number_in numbers) e)) None) (sym f)
              ∙ ap Some (entry-alike net t (stays_among net t es n) (number_in numbers) (count_before set) there e (sym f))
          last false f = ap (λ (b : Bool). cond b (Some (renewed (number_in numbers) e)) None) (sym f)

  -- so many of the first n stay
  pub length-first : (n : ℕ) → n ≤ length es → length (kept_first net edits book n).entries ≡ count_before set n
  length-first n within =
      length-map (at_places set (take n es)) (renewed (count_before set)) ∙ at_places-length set (take n es)
      ∙ ap (count_before set) (length-take-le n es within)

  -- one number more
  pub numbers-next : (n k : ℕ) (x : Entry) (numbers : List (Option ℕ)) → AreNumbers set n numbers → k ≡ count_before set n
      → AreNumbers set (n + 1) (numbers ++ option_map (λ (e : Entry). k) (cond (set n) (Some x) None) ∷ [])
  numbers-next n k x numbers are is = record {
    count = length-append numbers (option_map (λ (e : Entry). k) (cond (set n) (Some x) None) ∷ []) ∙ ap (λ (m : ℕ). m + 1) are.count;
    each = λ i less. elim (cases_lt i n) [
      | inl below ↦
          slice_get-left numbers (option_map (λ (e : Entry). k) (cond (set n) (Some x) None) ∷ []) i (omega (arith, are.count, below)) ∙ are.each i below
      | inr more ↦
          let here : i ≡ n = omega arith in
          let end : i ≡ length numbers + 0 = omega (arith, are.count, here) in
          ap (slice_get (numbers ++ option_map (λ (e : Entry). k) (cond (set n) (Some x) None) ∷ [])) end
          ∙ slice_get-right numbers (option_map (λ (e : Entry). k) (cond (set n) (Some x) None) ∷ []) 0
          ∙ ap Some (number (set n)) ∙ ap (λ (m : ℕ). Some (number_of set m)) (sym here)
    ];
  }
    where
      number : (b : Bool) → option_map (λ (e : Entry). k) (cond b (Some x) None) ≡ cond b (Some (count_before set n)) None
      number true = ap Some is
      number false = refl

  -- one entry more, if it stays
  pub first-next : (n : ℕ) (e : Entry) → slice_get es n ≡ Some e
      → kept_first net edits book (n + 1) ≡ with_some (kept_first net edits book n) (cond (set n) (Some (renewed (count_before set) e)) None)
  first-next n e at =
      ap (λ (l : List Entry). put (map (renewed (count_before set)) l))
      (ap (at_places set) (take_next es n e at) ∙ at_places-last set (take n es) e
      ∙ ap (λ (m : ℕ). at_places set (take n es) ++ cond (set m) (e ∷ []) []) (length-take-le n es (omega (arith, inside))))
      ∙ ap put (map-append (renewed (count_before set)) (at_places set (take n es)) (cond (set n) (e ∷ []) []))
      ∙ go (set n)
    where
      put : List Entry → Entries
      put l = record { sweep_budget = book.sweep_budget; out_budget = book.out_budget; entries = l }

      inside : n < length es
      inside = slice_get_within es n e at

      go : (b : Bool) → put (map (renewed (count_before set)) (at_places set (take n es)) ++ map (renewed (count_before set)) (cond b (e ∷ []) []))
          ≡ with_some (kept_first net edits book n) (cond b (Some (renewed (count_before set) e)) None)
      go true = refl
      go false = ap put (append-nil (chosen set (take n es)))

  -- nothing of none
  pub numbers-none : AreNumbers set 0 []
  numbers-none = record { count = refl; each = λ i less. absurd (omega arith) }

  -- what stays of all entries
  pub first-all : (n : ℕ) → length es ≤ n → kept_first net edits book n ≡ kept net edits book
  first-all n all = ap (λ (l : List Entry). record { sweep_budget = book.sweep_budget; out_budget = book.out_budget; entries = chosen set l }) (take_all n es all)

  -- what becomes of the entry at place n, as the code has it
  more-next : (n : ℕ) (e : Entry) (numbers items : List (Option ℕ)) → slice_get es n ≡ Some e → AreNumbers set n items → numbers ≡ items
      → kept_at net t numbers es n ≡ cond (set n) (Some (renewed (count_before set) e)) None
  more-next n e numbers items at are same =
      ap (option_and_then (kept_entry net t numbers)) at ∙ ap (λ (l : List (Option ℕ)). kept_entry net t l e) same ∙ entry-next n e items at are

  -- it is good
  pub more-good : (new : AigPair) (n : ℕ) (numbers items : List (Option ℕ)) (so_far : Entries) → IsNet new → new ≡ edited_all net edits → IsLegal net book
      → n < length es → AreNumbers set n items → numbers ≡ items → so_far ≡ kept_first net edits book n
      → IfSome (kept_at net t numbers es n) (λ x. IsGood new so_far x)
  more-good new n numbers items so_far is edited legal inside are same kept_is =
      let (e, at) = element es n inside in
      subst (λ (p : Option Entry). IfSome p (λ x. IsGood new so_far x)) (sym (more-next n e numbers items at are same))
      (subst (λ (b : Entries). IfSome (cond (set n) (Some (renewed (count_before set) e)) None) (λ x. IsGood new b x)) (sym kept_is) (go e at (set n) refl))
    where
      go : (e : Entry) → slice_get es n ≡ Some e → (b : Bool) → set n ≡ b
          → IfSome (cond b (Some (renewed (count_before set) e)) None) (λ x. IsGood new (kept_first net edits book n) x)
      go e at true f = kept-good net new edits book n e is edited legal at f
      go e at false f = tt

  -- its number is noted
  pub more-numbers : (n : ℕ) (numbers items after : List (Option ℕ)) (so_far : Entries) (o : Option ℕ) → n < length es → AreNumbers set n items
      → numbers ≡ items → so_far ≡ kept_first net edits book n → o ≡ option_map (λ x. length so_far.entries) (kept_at net t numbers es n)
      → after ≡ items ++ o ∷ [] → AreNumbers set (n + 1) after
  more-numbers n numbers items after so_far o inside are same kept_is number is =
      let (e, at) = element es n inside in
      subst (λ (l : List (Option ℕ)). AreNumbers set (n + 1) l)
      (ap (λ (p : Option Entry). items ++ option_map (λ (x : Entry). length so_far.entries) p ∷ []) (sym (more-next n e numbers items at are same))
      ∙ ap (λ (p : Option ℕ). items ++ p ∷ []) (sym number) ∙ sym is)
      (numbers-next n (length so_far.entries) (renewed (count_before set) e) items are
      (ap (λ (b : Entries). length b.entries) kept_is ∙ length-first n (omega (arith, inside))))

  -- and it is put last
  pub more-kept : (n : ℕ) (numbers items : List (Option ℕ)) (so_far after : Entries) → n < length es → AreNumbers set n items → numbers ≡ items
      → so_far ≡ kept_first net edits book n → after ≡ with_some so_far (kept_at net t numbers es n) → after ≡ kept_first net edits book (n + 1)
  more-kept n numbers items so_far after inside are same kept_is is =
      let (e, at) = element es n inside in
      is ∙ ap (with_some so_far) (more-next n e numbers items at are same)
      ∙ ap (λ (b : Entries). with_some b (cond (set n) (Some (renewed (count_before set) e)) None)) kept_is
      ∙ sym (first-next n e at)

-- ---- an entry that is shared

pub shared-after : {E : Type 0} (o : Option Entry) (e : Entry) (r : Result Offered E) (x : Offered) (P : Entry → Type 0) → o ≡ Some e → r ≡ Ok x
    → IfSome o (λ y. OnOk r (P y)) → P e
shared-after {E} o e r x P at is shared =
    subst (λ (s : Result Offered E). OnOk s (P e)) is (subst (λ (p : Option Entry). IfSome p (λ y. OnOk r (P y))) at shared)

-- ---- the entry at a place

module _ (net : AigPair) (t : Node → Bool) (numbers : List (Option ℕ)) (es : List Entry) (n : ℕ) (e : Entry) (at : slice_get es n ≡ Some e) where
  -- it stays, and is renewed; it goes
  pub at-stays : entry_stays net t (is_numbered numbers) e ≡ true → kept_at net t numbers es n ≡ Some (renewed (number_in numbers) e)
  at-stays stay =
      ap (option_and_then (kept_entry net t numbers)) at
      ∙ ap (λ (b : Bool). cond b (Some (renewed (number_in numbers) e)) None) stay

  pub at-goes : entry_stays net t (is_numbered numbers) e ≡ false → kept_at net t numbers es n ≡ None
  at-goes go =
      ap (option_and_then (kept_entry net t numbers)) at
      ∙ ap (λ (b : Bool). cond b (Some (renewed (number_in numbers) e)) None) go

-- ---- what needs no new numbers

module _ (numbers : List (Option ℕ)) where
  current-hint : (h : Ref) → is_current_hint numbers h ≡ true → renewed_hint (number_in numbers) h ≡ h
  current-hint (Axiom node k) same = refl
  current-hint (Shown i k) same = ap (λ (m : ℕ). Shown m k) (equal-number (number_in numbers i) i same)
  current-hint (Own k) same = refl
  current-hint (Bound side k) same = refl

  current-hints : (hs : List Ref) → list_all (is_current_hint numbers) hs ≡ true → map (renewed_hint (number_in numbers)) hs ≡ hs
  current-hints [] same = refl
  current-hints (h ∷ hs) same =
      let both = and_parts (is_current_hint numbers h) (list_all (is_current_hint numbers) hs) same in
      rw (current-hint h both.0, current-hints hs both.1) refl

  current-steps : (ss : List Step) → list_all (is_current_step numbers) ss ≡ true → map (renewed_step (number_in numbers)) ss ≡ ss
  current-steps [] same = refl
  current-steps (s ∷ ss) same =
      let both = and_parts (is_current_step numbers s) (list_all (is_current_step numbers) ss) same in
      let hints : renewed_step (number_in numbers) s ≡ s = ap (λ (hs : List Ref). record { clause = s.clause; hints = hs }) (current-hints s.hints both.0) in
      rw (hints, current-steps ss both.1) refl

  -- renewing changes nothing
  pub current-entry : (e : Entry) → is_current numbers e ≡ true → renewed (number_in numbers) e ≡ e
  current-entry (Merge node lit steps) same = ap (Merge node lit) (current-steps steps same)
  current-entry (Apart node lit input) same = refl
  current-entry (Spent node lit seen log) same = refl
  current-entry (Out j steps) same = ap (Out j) (current-steps steps same)
  current-entry (OutApart j input) same = refl
  current-entry (OutSpent j seen log) same = refl

-- ---- what is handed out

flat_map-last : {X Y : Type 0} (f : X → List Y) (xs : List X) (x : X) → flat_map f (xs ++ x ∷ []) ≡ flat_map f xs ++ f x
flat_map-last f [] x = append-nil (f x)
flat_map-last f (y ∷ ys) x = ap (λ (l : List _). f y ++ l) (flat_map-last f ys x) ∙ sym (append_assoc (f y) (flat_map f ys) (f x))

-- the inputs of one entry more
pub handed-next : (es : List Entry) (n : ℕ) (e : Entry) → slice_get es n ≡ Some e
    → handed_out (take n es) ++ input_in (answer_of e) ≡ handed_out (take (n + 1) es)
handed-next es n e at = sym (ap handed_out (take_next es n e at) ∙ flat_map-last (λ x. input_in (answer_of x)) (take n es) e)

-- ---- what is touched

touched-is : (e : Edit) (n : Node) → is_node (touched_node e) n ≡ touched e n
touched-is (edit.Set side lhs r0 r1) n = refl
touched-is (edit.New side lhs r0 r1 place) n = refl
touched-is (edit.Remove side lhs) n = refl
touched-is (edit.Out side j lit) n = refl

-- the nodes that one edit more touches
pub touched-next : (edits : List Edit) (i : ℕ) (e : Edit) (o : Option Node) (n : Node) → take (i + 1) edits ≡ take i edits ++ e ∷ [] → o ≡ touched_node e
    → (touched_by (take i edits) n || is_node o n) ≡ touched_by (take (i + 1) edits) n
touched-next edits i e o n more is =
    ap (λ (p : Option Node). touched_by (take i edits) n || is_node p n) is
    ∙ ap (λ (b : Bool). touched_by (take i edits) n || b) (touched-is e n ∙ sym (or-false (touched e n)))
    ∙ sym (list_any-append (λ x. touched x n) (take i edits) (e ∷ []))
    ∙ ap (λ (l : List Edit). touched_by l n) (sym more)
