-- The books that are handed back for checks, and what is promised of each.
use Rattle.std.proofs.Common.{◌≡◌, ℕ, suc, zero, ◌+◌, ◌≤◌, inl, inr, Bool, true, false, List, [], ◌∷◌, ◌++◌, length, map, filter, Option, Some, refl, sym, ap, ◌∙◌, subst, arith}
use Rattle.std.specs.Prelude.{◌⊎◌, Contains, if◌then◌else◌}
use Rattle.std.proofs.lemmas.List.{map-append}
use Rattle.std.proofs.lemmas.List.Elements.{Contains-append_left, Contains-append_right, Contains-append_cases}
use Rattle.netlist.specs.Net.{AigPair}
use Rattle.lemma_book.specs.Entry.{Entries}
use Rattle.lemma_book.specs.Book.{StartsWith}
use Rattle.keep_lemmas.specs.Kept.{kept as kept_lemmas}
use Rattle.cec_top.specs.declared.kept.Kept.{Kept}
use Rattle.netlist_edits.specs.declared.edit.Edit.{Edit}
use Rattle.cec_top.specs.Script.{Due, due_behind}
use Rattle.cec_top.specs.Headline.{Told, AreInRow, BeginsOn}
use Rattle.cec_top.specs.Check.{Made, Opening, AreInTurn, behind, due_of, is_undecided, kept_from, kept_of, last_book}
use Rattle.cec_top.proofs.PlanLemmas.{AreChained}
use Rattle.cec_top.proofs.RunLemmas.{kept_open, kept-last}
use Rattle.cec_top.proofs.ToldLemmas.{told_of, tolds}

contains-one : (k : Kept) → Contains (k ∷ []) k
contains-one k = (0, omega arith, refl)

one-is : (k x : Kept) → Contains (k ∷ []) x → k ≡ x
one-is k x (zero, below, is) = is
one-is k x (suc i, below, is) = absurd (omega (arith, below))

-- ---- which books there are

pub has-last : (ms : List Made) (last : Made) → Contains (kept_from 0 (ms ++ last ∷ [])) (kept_of (length ms) last)
has-last ms last =
    subst (λ (ks : List Kept). Contains ks (kept_of (length ms) last)) (sym (kept-last ms last))
    (Contains-append_right (kept_open 0 ms) (kept_of (length ms) last ∷ []) (kept_of (length ms) last) (contains-one (kept_of (length ms) last)))

-- the book of each check that left outputs open is there
abbrev pub HasOpen : List Kept → ℕ → List Made → Type 0
HasOpen kept number [] = Unit {0}
HasOpen kept number (m ∷ ms) = (is_undecided m.finding ≡ true → Contains kept (kept_of number m)) × HasOpen kept (number + 1) ms

more-open : (k : Kept) (kept : List Kept) (number : ℕ) (ms : List Made) → HasOpen kept number ms → HasOpen (k ∷ kept) number ms
more-open k kept number [] has = tt
more-open k kept number (m ∷ ms) has = (
  λ opens. Contains-append_right (k ∷ []) kept (kept_of number m) (has.0 opens),
  more-open k kept (number + 1) ms has.1,
)

open-there : (number : ℕ) (ms : List Made) → HasOpen (kept_open number ms) number ms
open-there number [] = tt
open-there number (m ∷ ms) = go (is_undecided m.finding) refl (open-there (number + 1) ms)
  where
    go : (b : Bool) → is_undecided m.finding ≡ b → HasOpen (kept_open (number + 1) ms) (number + 1) ms
        → HasOpen (if b then kept_of number m ∷ kept_open (number + 1) ms else kept_open (number + 1) ms) number (m ∷ ms)
    go true is has = (
      λ opens. Contains-append_left (kept_of number m ∷ []) (kept_open (number + 1) ms) (kept_of number m) (contains-one (kept_of number m)),
      more-open (kept_of number m) (kept_open (number + 1) ms) (number + 1) ms has,
    )
    go false is has = (λ opens. let bad : false ≡ true = sym is ∙ opens in cc, has)

all-open : (kept more : List Kept) (number : ℕ) (ms : List Made) → HasOpen kept number ms → HasOpen (kept ++ more) number ms
all-open kept more number [] has = tt
all-open kept more number (m ∷ ms) has =
    (λ opens. Contains-append_left kept more (kept_of number m) (has.0 opens), all-open kept more (number + 1) ms has.1)

pub has-open : (ms : List Made) (last : Made) → HasOpen (kept_from 0 (ms ++ last ∷ [])) 0 ms
has-open ms last =
    subst (λ (ks : List Kept). HasOpen ks 0 ms) (sym (kept-last ms last))
    (all-open (kept_open 0 ms) (kept_of (length ms) last ∷ []) 0 ms (open-there 0 ms))

-- their numbers
if-numbers : (b : Bool) (k : Kept) (t : Told) (ks : List Kept) (ts : List Told) → k.check ≡ t.number
    → map (λ (k : Kept). k.check) ks ≡ map (λ (t : Told). t.number) ts
    → map (λ (k : Kept). k.check) (if b then k ∷ ks else ks) ≡ map (λ (t : Told). t.number) (if b then t ∷ ts else ts)
if-numbers true k t ks ts one rest = rw (one, rest) refl
if-numbers false k t ks ts one rest = rest

open-numbers : (out : Option (List ℕ)) (number : ℕ) (ms : List Made) → map (λ (k : Kept). k.check) (kept_open number ms)
    ≡ map (λ (t : Told). t.number) (filter (λ (t : Told). is_undecided t.finding) (tolds out number ms))
open-numbers out number [] = refl
open-numbers out number (m ∷ ms) =
    if-numbers (is_undecided m.finding) (kept_of number m) (told_of out number m) (kept_open (number + 1) ms)
    (filter (λ (t : Told). is_undecided t.finding) (tolds out (number + 1) ms)) refl (open-numbers out (number + 1) ms)

pub kept-numbers : (out : Option (List ℕ)) (ms : List Made) (last : Made) → map (λ (k : Kept). k.check) (kept_from 0 (ms ++ last ∷ []))
    ≡ map (λ (t : Told). t.number) (filter (λ (t : Told). is_undecided t.finding) (tolds out 0 ms) ++ told_of out (length ms) last ∷ [])
kept-numbers out ms last =
    ap (map (λ (k : Kept). k.check)) (kept-last ms last)
    ∙ map-append (λ (k : Kept). k.check) (kept_open 0 ms) (kept_of (length ms) last ∷ [])
    ∙ ap (λ (ns : List ℕ). ns ++ length ms ∷ []) (open-numbers out 0 ms)
    ∙ sym (map-append (λ (t : Told). t.number) (filter (λ (t : Told). is_undecided t.finding) (tolds out 0 ms))
    (told_of out (length ms) last ∷ []))

-- ---- a book that is there is its check's

-- it is the book of one of the checks from this number on
abbrev pub IsOf : ℕ → List Made → Kept → Type 0
IsOf number [] k = ⊥
IsOf number (m ∷ ms) k = (kept_of number m ≡ k) ⊎ IsOf (number + 1) ms k

of-least : (number : ℕ) (ms : List Made) (k : Kept) → IsOf number ms k → number ≤ k.check
of-least number [] k p = absurd p
of-least number (m ∷ ms) k (inl e) = omega (arith, ap (λ (x : Kept). x.check) e)
of-least number (m ∷ ms) k (inr p) = omega (arith, of-least (number + 1) ms k p)

pub kept-of : (number : ℕ) (ms : List Made) (k : Kept) → Contains (kept_from number ms) k → IsOf number ms k
kept-of number [] k (i, below, is) = absurd (omega (arith, below))
kept-of number (m ∷ []) k has = inl (one-is (kept_of number m) k has)
kept-of number (m ∷ n ∷ ms) k has = go (is_undecided m.finding) refl (λ p. kept-of (number + 1) (n ∷ ms) k p)
  where
    go : (b : Bool) → is_undecided m.finding ≡ b → (Contains (kept_from (number + 1) (n ∷ ms)) k → IsOf (number + 1) (n ∷ ms) k)
        → IsOf number (m ∷ n ∷ ms) k
    go true is later =
        elim (Contains-append_cases (kept_of number m ∷ []) (kept_from (number + 1) (n ∷ ms)) k (rw is at has)) [
          | inl p ↦ inl (one-is (kept_of number m) k p)
          | inr p ↦ inr (later p)
        ]
    go false is later = inr (later (rw is at has))

-- the first of these checks has it, if it has that number
of-first : (number : ℕ) (m : Made) (ms : List Made) (book : Entries) → IsOf number (m ∷ ms) (record { check = number; book = book })
    → m.book ≡ book
of-first number m ms book (inl e) = ap (λ (k : Kept). k.book) e
of-first number m ms book (inr p) = absurd (omega (arith, of-least (number + 1) ms (record { check = number; book = book }) p))

of-later : (number : ℕ) (m : Made) (ms : List Made) (k : Kept) → number + 1 ≤ k.check → IsOf number (m ∷ ms) k → IsOf (number + 1) ms k
of-later number m ms k later (inl e) = absurd (omega (arith, later, ap (λ (x : Kept). x.check) e))
of-later number m ms k later (inr p) = p

-- check 0 goes on from the opening
pub begins-on : (kept : List Kept) (ms : List Made) → ((k : Kept) → 0 ≤ k.check → Contains kept k → IsOf 0 ms k) → (from : Opening) → AreInTurn from ms
    → (dues : List Due) (last : AigPair) → map due_of ms ≡ due_behind last ∷ dues → BeginsOn kept from
begins-on kept [] of from are dues last checks n has = absurd (of (record { check = 0; book = n }) (omega arith) has)
begins-on kept (m ∷ ms) of from are dues last checks n has =
    let first : m.book ≡ n = of-first 0 m ms n (of (record { check = 0; book = n }) (omega arith) has) in
    let edits : m.edits ≡ [] = ap (first_edits m.edits) checks in
    subst (λ (b : Entries). StartsWith b (kept_lemmas from.net [] from.book)) first
    (subst (λ (es : List Edit). StartsWith m.book (kept_lemmas from.net es from.book)) edits are.0)
  where
    first_edits : List Edit → List Due → List Edit
    first_edits es [] = es
    first_edits es (d ∷ ds) = d.edits

-- each check goes on from the one before it
pub in-row : (out : Option (List ℕ)) (kept : List Kept) (number : ℕ) (ms : List Made)
    → ((k : Kept) → number ≤ k.check → Contains kept k → IsOf number ms k)
    → (from : Opening) → AreInTurn from ms → (last : AigPair) → AreChained last (map due_of ms) → AreInRow kept (tolds out number ms)
in-row out kept number [] of from are last chained = tt
in-row out kept number (m ∷ []) of from are last chained = tt
in-row out kept number (m ∷ n ∷ ms) of from are last chained =
    let later : (k : Kept) → number + 1 ≤ k.check → Contains kept k → IsOf (number + 1) (n ∷ ms) k =
    λ k above has. of-later number m (n ∷ ms) k above (of k (omega (arith, above)) has) in (
      record {
        net_is = chained.1.0;
        begins = λ x y x_has y_has.
            let first : m.book ≡ x = of-first number m (n ∷ ms) x (of (record { check = number; book = x }) (omega arith) x_has) in
            let second : n.book ≡ y = of-first (number + 1) n ms y (later (record { check = number + 1; book = y }) (omega arith) y_has) in
            subst (λ (b : Entries). StartsWith b (kept_lemmas m.net n.edits x)) second
            (subst (λ (b : Entries). StartsWith n.book (kept_lemmas m.net n.edits b)) first are.1.0);
      },
      in-row out kept (number + 1) (n ∷ ms) later (behind m) are.1 m.net chained.1,
    )

-- ---- the last of them

pub last-of : (ks : List Kept) (k : Kept) → last_book (ks ++ k ∷ []) ≡ Some k.book
last-of [] k = refl
last-of (j ∷ []) k = refl
last-of (j ∷ l ∷ ls) k = last-of (l ∷ ls) k

-- is that of the last check
pub last-kept : (ms : List Made) (last : Made) → last_book (kept_from 0 (ms ++ last ∷ [])) ≡ Some last.book
last-kept ms last =
    ap last_book (kept-last ms last) ∙ last-of (kept_open 0 ms) (kept_of (length ms) last)
