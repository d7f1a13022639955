-- Books are loaded entry by entry, and there is one loaded book.
use Rattle.std.proofs.Common.{◌≡◌, ℕ, Bool, true, false, Option, Some, None, List, [], ◌∷◌, ◌++◌, length, refl, sym, ◌∙◌, subst, inl, inr}
use Rattle.std.proofs.Math.Seq.{take-length}
use Rattle.netlist.specs.Net.{AigPair}
use Rattle.lemma_book.specs.declared.entry.Entry.{Entry}
use Rattle.lemma_book.specs.declared.refused.Fault.{Fault}
use Rattle.lemma_book.specs.declared.refused.Fault.TheVariants as fault
use Rattle.lemma_book.specs.Entry.{Entries, first_entries, settled_at, with_last}
use Rattle.lemma_book.specs.Book.{book_after}
use Rattle.lemma_book.specs.Good.{IsGood, NoNode, Already, NotEarlier, NotApart, Shape, Count, Seen, NoStep, NotNew}
use Rattle.lemma_book.specs.Fault.{IsFault, IsFirst, IsSettled}
use Rattle.book_file.specs.Loaded.{with_taken, cites_among, is_taken, number_in, renumbered, Loads}
use Rattle.book_file.specs.Loading.{TakesGood, PutsOrPasses, TakesOrPasses, number_of}

-- ---- what a refusal tells

-- an entry with a fault isn't good
pub fault_bad : (net : AigPair) (book : Entries) (e : Entry) (f : Fault) → IsFault net book e f → ¬ IsGood net book e
fault_bad net book e fault.NoNode is good = is.stands (good NoNode)
fault_bad net book e fault.NotEarlier is good = is.stands (good NotEarlier)
fault_bad net book e fault.Shape is good = is.stands (good Shape)
fault_bad net book e fault.Count is good = is.stands (good Count)
fault_bad net book e fault.Seen is good = is.stands (good Seen)
fault_bad net book e (fault.Step k bad) is good = is.0.stands (good (NoStep k))
fault_bad net book e (fault.NotNew k) is good = is.stands (good (NotNew k))

-- nor is one that says of equal values that they differ, or one that is settled
pub apart_bad : (net : AigPair) (book : Entries) (e : Entry) → IsFirst net book e NotApart → ¬ IsGood net book e
apart_bad net book e is good = is.stands (good NotApart)

pub settled_bad : (net : AigPair) (book : Entries) (e : Entry) (i : ℕ) → IsSettled net book e i → ¬ IsGood net book e
settled_bad net book e i is good = is.0.stands (good Already)

-- ---- a good entry
pub good-all : (net : AigPair) (book : Entries) (e : Entry) → IsGood net book e → IsGood net (first_entries (length book.entries) book) e
good-all net book e good =
    subst (λ (es : List Entry). IsGood net (record { sweep_budget = book.sweep_budget; out_budget = book.out_budget; entries = es }) e)
    (sym (take-length book.entries)) good

-- is settled by no other one
pub after-good : (net : AigPair) (book : Entries) (e : Entry) → IsGood net book e → book_after book e ≡ with_last book e
after-good net book e good = let free : settled_at book.entries e ≡ None = good Already in rw free refl

-- ---- one entry

-- an entry that cites what wasn't taken is passed over
pub cites_passes : (net : AigPair) (old : Entries) (numbers : List (Option ℕ)) (e : Entry) → cites_among (is_taken numbers) e ≡ false
    → PutsOrPasses net old numbers e old false
cites_passes net old numbers e is = (λ m. let f : false ≡ true = sym is ∙ m.cited in cc, refl)

-- any other is judged under its new numbers
pub cites_puts : (net : AigPair) (old : Entries) (numbers : List (Option ℕ)) (e : Entry) (new : Entries) (b : Bool)
    → cites_among (is_taken numbers) e ≡ true → TakesGood net old (renumbered (number_in numbers) e) new b → PutsOrPasses net old numbers e new b
cites_puts net old numbers e new true is takes = (record { cited = is; good = takes.0 }, takes.1)
cites_puts net old numbers e new false is takes = (λ m. takes.0 m.good, takes.1)

-- ---- entry by entry

-- an entry more in front
pub loads-next : (net : AigPair) (old : Entries) (numbers : List (Option ℕ)) (e : Entry) (new : Entries) (noted : List (Option ℕ)) (es : List Entry)
    (last : Entries) → TakesOrPasses net old numbers e new noted → Loads net new noted es last → Loads net old numbers (e ∷ es) last
loads-next net old numbers e new noted es last t rest = go t.is_put t.puts t.notes
  where
    go : (b : Bool) → PutsOrPasses net old numbers e new b → noted ≡ numbers ++ number_of b (length old.entries) ∷ []
        → Loads net old numbers (e ∷ es) last
    go true puts notes =
        inl (
          puts.0,
          subst (λ (l : List (Option ℕ)). Loads net (with_taken old numbers e) l es last) notes
              (subst (λ (b : Entries). Loads net b noted es last) puts.1 rest),
        )
    go false puts notes =
        inr (
          puts.0,
          subst (λ (l : List (Option ℕ)). Loads net old l es last) notes
              (subst (λ (b : Entries). Loads net b noted es last) puts.1 rest),
        )

-- there is one last book
pub loads_one : (net : AigPair) (book : Entries) (numbers : List (Option ℕ)) (es : List Entry) (last other : Entries)
    → Loads net book numbers es last → Loads net book numbers es other → last ≡ other
loads_one net book numbers [] last other l m = l ∙ sym m
loads_one net book numbers (e ∷ es) last other (inl l) (inl m) =
    loads_one net (with_taken book numbers e) (numbers ++ Some (length book.entries) ∷ []) es last other l.1 m.1
loads_one net book numbers (e ∷ es) last other (inr l) (inr m) = loads_one net book (numbers ++ None ∷ []) es last other l.1 m.1
loads_one net book numbers (e ∷ es) last other (inl l) (inr m) = absurd (m.0 l.0)
loads_one net book numbers (e ∷ es) last other (inr l) (inl m) = absurd (l.0 m.0)
