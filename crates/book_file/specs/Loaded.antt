-- The book that a net takes of some entries, as those of a lemma file: whoever wrote them, each is judged, and what isn't good is
-- passed over.
use Rattle.std.specs.Prelude.{◌≡◌, ◌⊎◌, ℕ, Bool, true, false, Option, None, Some, List, [], ◌∷◌, ◌++◌, length, map, slice_get, is_some}
use Rattle.std.specs.Option.{option_map_or}
use Rattle.std.specs.List.{list_all}
use Rattle.lits.specs.declared.step.Ref.{Ref}
use Rattle.lits.specs.declared.step.Ref.TheVariants.{Axiom, Entry as Shown, Own, Bound}
use Rattle.lits.specs.declared.step.Step.{Step}
use Rattle.netlist.specs.Net.{AigPair}
use Rattle.lemma_book.specs.declared.entry.Entry.{Entry}
use Rattle.lemma_book.specs.declared.entry.Entry.TheVariants.{Merge, Apart, Spent, Out, OutApart, OutSpent}
use Rattle.lemma_book.specs.Entry.{Entries, Answer, Equal, Differ, Open, answer_of, with_last}
use Rattle.lemma_book.specs.Good.{IsGood}
use Rattle.keep_lemmas.specs.Kept.{renewed_step}

-- ---- what an entry cites

-- the hint names an entry of the set, or none
abbrev pub hint_among : (ℕ → Bool) → Ref → Bool
hint_among set (Axiom node k) = true
hint_among set (Shown i k) = set i
hint_among set (Own k) = true
hint_among set (Bound side k) = true

abbrev pub steps_among : (ℕ → Bool) → List Step → Bool
steps_among set steps = list_all (λ s. list_all (hint_among set) s.hints) steps

-- the steps of an answer: those that show that values are equal, or the clauses that were learned
abbrev pub steps_in : Answer → List Step
steps_in (Equal steps) = steps
steps_in (Differ input) = []
steps_in (Open seen log) = log

-- each entry that the entry cites is in the set
abbrev pub cites_among : (ℕ → Bool) → Entry → Bool
cites_among set e = steps_among set (steps_in (answer_of e))

-- the entry, with these numbers put for those by which its hints name entries
abbrev pub renumbered : (ℕ → ℕ) → Entry → Entry
renumbered number (Merge node lit steps) = Merge node lit (map (renewed_step number) steps)
renumbered number (Apart node lit input) = Apart node lit input
renumbered number (Spent node lit seen log) = Spent node lit seen (map (renewed_step number) log)
renumbered number (Out j steps) = Out j (map (renewed_step number) steps)
renumbered number (OutApart j input) = OutApart j input
renumbered number (OutSpent j seen log) = OutSpent j seen (map (renewed_step number) log)

-- ---- what is taken

-- the entry at a place among those that were looked at was taken: it has a number in the book
abbrev pub is_taken : List (Option ℕ) → ℕ → Bool
is_taken numbers i = option_map_or is_some (slice_get numbers i) false

-- this number; 0 where it has none, as an entry that was passed over or comes later, which no entry cites that may be taken
abbrev pub number_in : List (Option ℕ) → ℕ → ℕ
number_in numbers i = option_map_or (λ o. option_map_or (λ n. n) o 0) (slice_get numbers i) 0

-- The entry may be taken as the book's next one, where the entries before it have these numbers: each entry that it cites was
-- taken, and with their numbers put for those that it has, it is good over the book.
pub record MayBeTaken (net : AigPair) (book : Entries) (numbers : List (Option ℕ)) (e : Entry) : Type 0 where
  pub cited : cites_among (is_taken numbers) e ≡ true
  pub good : IsGood net book (renumbered (number_in numbers) e)

-- the book, with an entry put last under the numbers of those before it
abbrev pub with_taken : Entries → List (Option ℕ) → Entry → Entries
with_taken book numbers e = with_last book (renumbered (number_in numbers) e)

-- The last book is this one with the entries behind it in order: each is put last where it may be taken, and passed over where it
-- may not. The numbers are those of the entries before these.
abbrev pub Loads : AigPair → Entries → List (Option ℕ) → List Entry → Entries → Type 0
Loads net book numbers [] last = last ≡ book
Loads net book numbers (e ∷ entries) last =
    (MayBeTaken net book numbers e
    × Loads net (with_taken book numbers e) (numbers ++ Some (length book.entries) ∷ []) entries last)
    ⊎ ((¬ MayBeTaken net book numbers e) × Loads net book (numbers ++ None ∷ []) entries last)

-- The loaded book: the empty one of these budgets with the entries behind it in order, each where it may be taken.
abbrev pub IsLoaded : AigPair → ℕ → ℕ → List Entry → Entries → Type 0
IsLoaded net sweep out entries book =
    Loads net (record { sweep_budget = sweep; out_budget = out; entries = [] }) [] entries book
