-- How the kept book is made, entry by entry.
use Rattle.std.specs.Prelude.{◌≡◌, ℕ, ◌<◌, ◌==◌, Bool, true, false, Option, None, Some, List, length, take, slice_get, is_some, if◌then◌else◌}
use Rattle.std.specs.Option.{option_map_or, option_and_then}
use Rattle.std.specs.List.{list_all}
use Rattle.std.specs.HashSet.{HashSet, contains}
use Rattle.lits.specs.declared.node.Node.{Node}
use Rattle.lits.specs.declared.node.Node.TheVariants.{Gate, Xor}
use Rattle.lits.specs.declared.step.Ref.{Ref}
use Rattle.lits.specs.declared.step.Ref.TheVariants.{Axiom, Entry as Shown, Own, Bound}
use Rattle.lits.specs.declared.step.Step.{Step}
use Rattle.lits.specs.Same.{same_node}
use Rattle.netlist.specs.Net.{AigPair}
use Rattle.netlist.specs.Circuit.{var_of}
use Rattle.lemma_book.specs.declared.entry.Entry.{Entry}
use Rattle.lemma_book.specs.declared.entry.Entry.TheVariants.{Merge, Apart, Spent, Out, OutApart, OutSpent}
use Rattle.lemma_book.specs.Entry.{Entries, with_last}
use Rattle.netlist_edits.specs.declared.edit.Edit.{Edit}
use Rattle.netlist_edits.specs.declared.edit.Edit.TheVariants.{Set, New, Remove, Out as OutEdit}
use Rattle.netlist_edits.specs.Edited.{touched_by}
use Rattle.keep_lemmas.specs.Kept.{entry_stays, stays, count_before, renewed, chosen}

-- ---- touched nodes

-- the node that an edit touches
abbrev pub touched_node : Edit → Option Node
touched_node (Set side lhs r0 r1) = Some (Gate side (var_of lhs))
touched_node (New side lhs r0 r1 place) = None
touched_node (Remove side lhs) = Some (Gate side (var_of lhs))
touched_node (OutEdit side j lit) = Some (Xor j)

-- the node is that one, if there is one
abbrev pub is_node : Option Node → Node → Bool
is_node o n = option_map_or (same_node n) o false

-- the set has exactly the nodes that the edits touch
abbrev pub HasTouched : {S : Type 0} → HashSet Node S → List Edit → Type 0
HasTouched nodes edits = (n : Node) → contains same_node nodes n ≡ touched_by edits n

-- ---- new numbers, by the entries' old places: none for an entry that goes

-- the entry at the place has a number
abbrev pub is_numbered : List (Option ℕ) → ℕ → Bool
is_numbered numbers i = option_map_or is_some (slice_get numbers i) false

-- its number; 0 where it has none, as an entry that goes or stands behind the list, which no step names that stays
abbrev pub number_in : List (Option ℕ) → ℕ → ℕ
number_in numbers i = option_map_or (λ o. option_map_or (λ n. n) o 0) (slice_get numbers i) 0

-- the number of the entry at the place among those of a set
abbrev pub number_of : (ℕ → Bool) → ℕ → Option ℕ
number_of set i = if set i then Some (count_before set i) else None

-- the first n entries have their numbers
pub record AreNumbers (set : ℕ → Bool) (n : ℕ) (numbers : List (Option ℕ)) : Type 0 where
  pub count : length numbers ≡ n
  pub each : (i : ℕ) → i < n → slice_get numbers i ≡ Some (number_of set i)

-- ---- entries

-- the entry with new numbers, where it stays
abbrev pub kept_entry : AigPair → (Node → Bool) → List (Option ℕ) → Entry → Option Entry
kept_entry net touched numbers e =
    if entry_stays net touched (is_numbered numbers) e then Some (renewed (number_in numbers) e) else None

-- the same of the entry at a place
abbrev pub kept_at : AigPair → (Node → Bool) → List (Option ℕ) → List Entry → ℕ → Option Entry
kept_at net touched numbers entries n = option_and_then (kept_entry net touched numbers) (slice_get entries n)

-- ---- hints that name entries by their new numbers as they are

abbrev pub is_current_hint : List (Option ℕ) → Ref → Bool
is_current_hint numbers (Axiom node k) = true
is_current_hint numbers (Shown i k) = number_in numbers i == i
is_current_hint numbers (Own k) = true
is_current_hint numbers (Bound side k) = true

abbrev pub is_current_step : List (Option ℕ) → Step → Bool
is_current_step numbers s = list_all (is_current_hint numbers) s.hints

-- a Merge or an Out with such hints alone, or an entry of another kind, in which `renewed` changes nothing
abbrev pub is_current : List (Option ℕ) → Entry → Bool
is_current numbers (Merge node lit steps) = list_all (is_current_step numbers) steps
is_current numbers (Apart node lit input) = true
is_current numbers (Spent node lit seen log) = true
is_current numbers (Out j steps) = list_all (is_current_step numbers) steps
is_current numbers (OutApart j input) = true
is_current numbers (OutSpent j seen log) = true

-- ---- the new book

-- the book with one entry more, if there is one
abbrev pub with_some : Entries → Option Entry → Entries
with_some book entry = option_map_or (with_last book) entry book

-- what stays of the first n entries
abbrev pub kept_first : AigPair → List Edit → Entries → ℕ → Entries
kept_first net edits book n = record {
  sweep_budget = book.sweep_budget;
  out_budget = book.out_budget;
  entries = chosen (stays net (touched_by edits) book.entries) (take n book.entries);
}
