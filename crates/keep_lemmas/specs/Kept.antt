-- What stays of a book when its net is edited, and what is handed on of the rest.
use Rattle.std.specs.Prelude.{ℕ, zero, suc, ◌+◌, ◌==◌, Bool, true, false, not, ◌&&◌, List, [], ◌∷◌, length, map, slice_get, if◌then◌else◌}
use Rattle.std.specs.Option.{option_map, option_map_or}
use Rattle.std.specs.List.{list_any, list_all, flat_map}
use Rattle.lits.specs.declared.node.Node.{Node}
use Rattle.lits.specs.declared.literal.Lit.{Lit}
use Rattle.lits.specs.declared.step.Ref.{Ref}
use Rattle.lits.specs.declared.step.Ref.TheVariants.{Axiom, Entry as Shown, Own, Bound}
use Rattle.lits.specs.declared.step.Step.{Step}
use Rattle.netlist.specs.Net.{AigPair, bound_of}
use Rattle.netlist.specs.Miter.{axiom_of, unit}
use Rattle.lemma_book.specs.declared.entry.Entry.{Entry}
use Rattle.lemma_book.specs.declared.entry.Entry.TheVariants.{Merge, Apart, Spent, Out, OutApart, OutSpent}
use Rattle.lemma_book.specs.Entry.{Entries, Answer, Equal, Differ, Open, answer_of}
use Rattle.netlist_edits.specs.declared.edit.Edit.{Edit}
use Rattle.netlist_edits.specs.Edited.{touched_by}

-- ---- which entries stay

-- no literal of the clause is over a touched node
abbrev pub is_clear : (Node → Bool) → List Lit → Bool
is_clear touched clause = not (list_any (λ l. touched l.node) clause)

-- The hint names an axiom or a constraint's unit that is clear of touched nodes, or a clause of an entry of the set, or an own
-- step's clause. One that the net hasn't counts as clear; no step of a legal book cites one.
abbrev pub hint_stays : AigPair → (Node → Bool) → (ℕ → Bool) → Ref → Bool
hint_stays net touched set (Axiom node k) = option_map_or (is_clear touched) (axiom_of net node k) true
hint_stays net touched set (Shown i k) = set i
hint_stays net touched set (Own k) = true
hint_stays net touched set (Bound side k) = option_map_or (is_clear touched) (option_map unit (bound_of net side k)) true

-- its clause is clear of touched nodes, and so is what it cites
abbrev pub step_stays : AigPair → (Node → Bool) → (ℕ → Bool) → Step → Bool
step_stays net touched set s = is_clear touched s.clause && list_all (hint_stays net touched set) s.hints

-- an answer that values are equal stays where its steps do, and no other one does
abbrev pub answer_stays : AigPair → (Node → Bool) → (ℕ → Bool) → Answer → Bool
answer_stays net touched set (Equal steps) = list_all (step_stays net touched set) steps
answer_stays net touched set (Differ input) = false
answer_stays net touched set (Open seen log) = false

-- a Merge or an Out, where none of its steps' clauses and none of the axioms and constraints' units that they cite has a
-- literal of a touched node, and each entry that they cite is in the set
abbrev pub entry_stays : AigPair → (Node → Bool) → (ℕ → Bool) → Entry → Bool
entry_stays net touched set e = answer_stays net touched set (answer_of e)

-- The entry at place i stays, and it is one of the first n. In a legal book entries cite earlier ones only, so which of
-- those before it stay decides.
abbrev pub stays_among : AigPair → (Node → Bool) → List Entry → ℕ → ℕ → Bool
stays_among net touched entries zero i = false
stays_among net touched entries (suc n) i =
    if i == n then option_map_or (entry_stays net touched (stays_among net touched entries n)) (slice_get entries n) false
    else stays_among net touched entries n i

-- the entry at the place stays: it is a Merge or an Out that stands on no touched node and on no entry that goes
abbrev pub stays : AigPair → (Node → Bool) → List Entry → ℕ → Bool
stays net touched entries i = stays_among net touched entries (length entries) i

-- ---- the book that they make

-- how many places before the n-th, counted from 0, are in the set
abbrev pub count_before : (ℕ → Bool) → ℕ → ℕ
count_before set zero = 0
count_before set (suc n) = count_before set n + (if set n then 1 else 0)

-- the elements whose places are in the set, in order
abbrev pub at_places : {X : Type 0} → (ℕ → Bool) → List X → List X
at_places set [] = []
at_places set (x ∷ xs) = if set 0 then x ∷ at_places (λ k. set (suc k)) xs else at_places (λ k. set (suc k)) xs

-- the hint with an entry's new number
abbrev pub renewed_hint : (ℕ → ℕ) → Ref → Ref
renewed_hint number (Axiom node k) = Axiom node k
renewed_hint number (Shown i k) = Shown (number i) k
renewed_hint number (Own k) = Own k
renewed_hint number (Bound side k) = Bound side k

abbrev pub renewed_step : (ℕ → ℕ) → Step → Step
renewed_step number s = record { clause = s.clause; hints = map (renewed_hint number) s.hints }

-- A Merge or an Out whose hints name entries by their new numbers. It is meant for entries that stay, which are Merges and Outs;
-- of the others, whose logs name entries of a first part of the old book, nothing is changed.
abbrev pub renewed : (ℕ → ℕ) → Entry → Entry
renewed number (Merge node lit steps) = Merge node lit (map (renewed_step number) steps)
renewed number (Apart node lit input) = Apart node lit input
renewed number (Spent node lit seen log) = Spent node lit seen log
renewed number (Out j steps) = Out j (map (renewed_step number) steps)
renewed number (OutApart j input) = OutApart j input
renewed number (OutSpent j seen log) = OutSpent j seen log

-- The entries at the set's places, in order, where the new number of the entry at a place is how many of the set stand before
-- it. It is meant for sets with what their entries cite: the hint that names an entry outside of the set gets a number too.
abbrev pub chosen : (ℕ → Bool) → List Entry → List Entry
chosen set entries = map (renewed (count_before set)) (at_places set entries)

-- what stays of a book when its net is edited
abbrev pub kept : AigPair → List Edit → Entries → Entries
kept net edits book = record {
  sweep_budget = book.sweep_budget;
  out_budget = book.out_budget;
  entries = chosen (stays net (touched_by edits) book.entries) book.entries;
}

-- ---- what is handed on of the rest

-- the input of an answer that values differ
abbrev pub input_in : Answer → List (List Bool)
input_in (Equal steps) = []
input_in (Differ input) = input ∷ []
input_in (Open seen log) = []

-- the inputs of the book's Apart and OutApart entries, in order
abbrev pub handed_out : List Entry → List (List Bool)
handed_out entries = flat_map (λ e. input_in (answer_of e)) entries
