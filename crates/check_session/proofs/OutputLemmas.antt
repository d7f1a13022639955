-- What a book says of its outputs.
use Rattle.std.proofs.Common.{◌≡◌, ◌≢◌, ℕ, zero, suc, ◌+◌, ◌<◌, ◌≤◌, Bool, true, false, List, [], ◌∷◌, ◌++◌, length, filter, add-one, inl, inr, Option, Some, None, refl, sym, ap, ◌∙◌, subst, arith}
use Rattle.std.specs.List.{AllByRecursion, range_with_len}
use Rattle.std.specs.Prelude.{⊤}
use Rattle.std.proofs.Math.Nat.{eq-or-lt_of_le}
use Rattle.std.proofs.lemmas.List.Elements.{filter-append}
use Rattle.std.proofs.Math.Seq.{take-length}
use Rattle.netlist.specs.Net.{AigPair}
use Rattle.netlist.proofs.Facts.{found-one, no-facts}
use Rattle.lemma_book.specs.declared.entry.Entry.{Entry}
use Rattle.lemma_book.specs.declared.entry.Entry.TheVariants.{Merge, Apart, Spent, Out, OutApart, OutSpent}
use Rattle.lemma_book.specs.declared.entry.Subject.{Subject}
use Rattle.lemma_book.specs.declared.entry.Subject.TheVariants.{Merged, Output}
use Rattle.lemma_book.specs.Entry.{Entries, subject_of, is_on, about, settled_at, first_entries, with_last}
use Rattle.lemma_book.specs.Entry.{has_out, has_spent, has_apart}
use Rattle.lemma_book.specs.Good.{IsGood, Already}
use Rattle.lemma_book.proofs.Facts.{exact-subject, same-subject_self}
use Rattle.lemma_book.specs.Book.{book_after}
use Rattle.sweep_workers.specs.Answered.{OpensTwoRoots}
use Rattle.sweep_workers.specs.Swept.{AreSettled}
use Rattle.check_session.specs.Finding.{Finds}
use Rattle.check_session.specs.declared.verdict.Verdict.{Verdict}
use Rattle.check_session.specs.declared.verdict.Verdict.TheVariants as verdict
use Rattle.check_session.specs.Outputs.{Looks, SeeMerges, finding_of, verdict_of}
use Rattle.lits.proofs.Facts.{range-more}

-- ---- the whole book as its own first part

pub good-all : (net : AigPair) (book : Entries) (e : Entry) → IsGood net book e → IsGood net (first_entries (length book.entries) book) e
good-all net book e good =
    subst (λ (es : List Entry). IsGood net (record { sweep_budget = book.sweep_budget; out_budget = book.out_budget; entries = es }) e)
    (sym (take-length book.entries)) good

pub after-good : (net : AigPair) (book : Entries) (e : Entry) → IsGood net book e → book_after book e ≡ with_last book e
after-good net book e good = let free : settled_at book.entries e ≡ None = good Already in rw free refl

-- ---- subjects

pub on-subject : (s : Subject) (e : Entry) → is_on s e ≡ true → subject_of e ≡ Some s
on-subject s (Merge node lit steps) on = ap (λ (t : Subject). Some t) (exact-subject (Merged node) s on)
on-subject s (Apart node lit input) on = cc
on-subject s (Spent node lit seen log) on = cc
on-subject s (Out j steps) on = ap (λ (t : Subject). Some t) (exact-subject (Output j) s on)
on-subject s (OutApart j input) on = ap (λ (t : Subject). Some t) (exact-subject (Output j) s on)
on-subject s (OutSpent j seen log) on = ap (λ (t : Subject). Some t) (exact-subject (Output j) s on)

pub is_on-subject : (s : Subject) (e : Entry) → subject_of e ≡ Some s → is_on s e ≡ true
is_on-subject s e subject = rw subject (same-subject_self s)

pub off-subject : (s : Subject) (e : Entry) → subject_of e ≢ Some s → is_on s e ≡ false
off-subject s e other = go (is_on s e) refl
  where
    go : (b : Bool) → is_on s e ≡ b → is_on s e ≡ false
    go true is = absurd (other (on-subject s e is))
    go false is = is

-- ---- the entry on an output

-- it is about that output
pub about-subject : (es : List Entry) (j : ℕ) (e : Entry) → about es j ≡ Some e → subject_of e ≡ Some (Output j)
about-subject es j e found = on-subject (Output j) e (found-one (is_on (Output j)) (λ x. ⊤) es e (no-facts es) found).1

-- ---- what the entries of all outputs tell

le_of_below : (k n : ℕ) → k < n + 1 → k ≤ n
le_of_below k n below = omega arith

-- an output that has an entry, no input on which it differs and no spent budget is shown equal
pub out-else : (es : List Entry) (j : ℕ) → about es j ≢ None → has_apart es j ≡ false → has_spent es j ≡ false → has_out es j ≡ true
out-else es j some apart spent = go (about es j) refl
  where
    go : (o : Option Entry) → about es j ≡ o → has_out es j ≡ true
    go None is = absurd (some is)
    go (Some (Merge node lit steps)) is = let s = about-subject es j (Merge node lit steps) is in cc
    go (Some (Apart node lit input)) is = let s = about-subject es j (Apart node lit input) is in cc
    go (Some (Spent node lit seen log)) is = let s = about-subject es j (Spent node lit seen log) is in cc
    go (Some (Out k steps)) is = rw is refl
    go (Some (OutApart k input)) is = let t : true ≡ false = rw is at apart in cc
    go (Some (OutSpent k seen log)) is = let t : true ≡ false = rw is at spent in cc

-- the outputs that a test keeps, with one more looked at
pub kept-next : (p : ℕ → Bool) (old new : List ℕ) (n : ℕ) → old ≡ filter p (range_with_len 0 n) → new ≡ old ++ filter p (n ∷ [])
    → new ≡ filter p (range_with_len 0 (n + 1))
kept-next p old new n old_is new_is =
    let zero_first : 0 + n ≡ n = omega arith in
    let range : range_with_len 0 (n + 1) ≡ range_with_len 0 n ++ n ∷ [] =
    rw add-one (range-more 0 n ∙ ap (λ (k : ℕ). range_with_len 0 n ++ k ∷ []) zero_first) in
    new_is ∙ (ap (λ (ks : List ℕ). ks ++ filter p (n ∷ [])) old_is
    ∙ (sym (filter-append p (range_with_len 0 n) (n ∷ [])) ∙ ap (filter p) (sym range)))

pub none-next : (es : List Entry) (n : ℕ) → ((k : ℕ) → k < n → has_apart es k ≡ false) → has_apart es n ≡ false
    → (k : ℕ) → k < n + 1 → has_apart es k ≡ false
none-next es n before here k below =
    elim (eq-or-lt_of_le (le_of_below k n below)) [
      | inl same ↦ subst (λ (j : ℕ). has_apart es j ≡ false) (sym same) here
      | inr less ↦ before k less
    ]

-- what no filter keeps fails its test
pub filter-none : (p : ℕ → Bool) (a n j : ℕ) → filter p (range_with_len a n) ≡ [] → a ≤ j → j < a + n → p j ≡ false
filter-none p a zero j none from below = absurd (omega arith)
filter-none p a (suc n) j none from below = go (p a) refl none (λ rest past. filter-none p (a + 1) n j rest past (omega arith))
  where
    go : (b : Bool) → p a ≡ b → filter p (a ∷ range_with_len (a + 1) n) ≡ [] → (filter p (range_with_len (a + 1) n) ≡ [] → a + 1 ≤ j → p j ≡ false)
        → p j ≡ false
    go true is none rest = let t : (a ∷ filter p (range_with_len (a + 1) n)) ≡ [] = rw is at none in cc
    go false is none rest =
        elim (eq-or-lt_of_le from) [
          | inl here ↦ subst (λ (k : ℕ). p k ≡ false) here is
          | inr past ↦ rest (rw is at none) (omega arith)
        ]

module _ (net : AigPair) (es : List Entry) (settled : AreSettled net es) (seen : SeeMerges es)
    (roots : AllByRecursion (OpensTwoRoots net es) es) (open_list : List ℕ)
    (open_is : open_list ≡ filter (has_spent es) (range_with_len 0 (length net.a.outputs)))
    (none : (k : ℕ) → k < length net.a.outputs → has_apart es k ≡ false) where
  -- where no output differs the book shows that all are equal, or which are open
  pub finds-rest : Finds net es (finding_of (verdict_of open_list))
  finds-rest = go open_list refl
    where
      go : (js : List ℕ) → open_list ≡ js → Finds net es (finding_of (verdict_of js))
      go [] is = λ j below.
          out-else es j (settled j below) (none j below) (filter-none (has_spent es) 0 (length net.a.outputs) j (sym open_is ∙ is) (omega arith) (omega arith))
      go (j ∷ js) is = record {
        some_open = λ e. let t : (j ∷ js) ≡ [] = sym is ∙ (open_is ∙ e) in cc;
        others = λ k below spent. out-else es k (settled k below) (none k below) spent;
        seen = seen;
        roots = roots;
      }

-- the input of the entry on an output
pub different-here : (es : List Entry) (j k : ℕ) (given input : List Bool) (e : Entry) → Some e ≡ about es j → e ≡ OutApart k given → input ≡ given
    → (j ≡ j) × (about es j ≡ Some (OutApart j input))
different-here es j k given input e there is same =
    let found : about es j ≡ Some (OutApart k given) = sym there ∙ ap (λ (x : Entry). Some x) is in
    let subject : Some (Output k) ≡ Some (Output j) = about-subject es j (OutApart k given) found in
    let number : k ≡ j = cc in
    (refl, found ∙ cc)

-- an output whose entry tells an input is the first such one, where no smaller output has one
pub finds-at : (net : AigPair) (es : List Entry) (j : ℕ) (old new : List ℕ) (v : Verdict) → Looks es j old new (Some v)
    → ((k : ℕ) → k < j → has_apart es k ≡ false) → Finds net es (finding_of v)
finds-at net es j old new verdict.Equivalent looks none = absurd looks
finds-at net es j old new (verdict.Different k input) looks none =
    subst (λ (n : ℕ). (about es n ≡ Some (OutApart n input)) × ((m : ℕ) → m < n → has_apart es m ≡ false)) (sym looks.0)
    (looks.1, none)
finds-at net es j old new (verdict.Undecided outputs) looks none = absurd looks
