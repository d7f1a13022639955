-- The index of a list of entries: where it finds a key, that it finds the first entry with each key, and that there is room in it.
use Rattle.std.specs.Prelude.{◌≡◌, ℕ, ◌+◌, ◌≤◌, Option, None, Some, List, [], ◌∷◌, length, IfSome, if◌then◌else◌}
use Rattle.std.specs.Option.{option_map_or, option_or}
use Rattle.std.specs.List.{AllByRecursion}
use Rattle.std.specs.HashMap.{get, spare}
use Rattle.lits.specs.declared.node.Side.{Side}
use Rattle.lits.specs.declared.node.Node.TheVariants.{Gate}
use Rattle.lemma_book.specs.declared.entry.Entry.{Entry}
use Rattle.lemma_book.specs.declared.entry.Subject.TheVariants.{Merged}
use Rattle.lemma_book.specs.declared.index.Key.{Key}
use Rattle.lemma_book.specs.declared.index.Key.TheVariants.{On}
use Rattle.lemma_book.specs.declared.index.Index.{Index}
use Rattle.lemma_book.specs.MergeTable.{Table, slots_of, place_at, HasSlot}
use Rattle.lemma_book.specs.Shelf.{same_key, is_key, number_of}

-- the circuit and the variable of the gate that is merged
abbrev pub gate_of : Key → Option (Side × ℕ)
gate_of (On (Merged (Gate side var))) = Some (side, var)
gate_of k = None

-- the merge of a gate is found in its slot, all else in the map
abbrev pub place_by : Index → Key → Option ℕ
place_by index k = option_map_or (λ g. place_at index.merges g.0 g.1) (gate_of k) (get same_key index.others k)

-- the index finds the first entry with each key
pub record IsIndex (entries : List Entry) (index : Index) : Type 0 where
  pub finds : (k : Key) → place_by index k ≡ number_of entries k

abbrev pub FindsSame : Index → Index → Type 0
FindsSame old new = (k : Key) → place_by new k ≡ place_by old k

-- one more entry with this key and place is noted, unless an earlier one has the key
pub record Notes (old : Index) (key : Option Key) (place : ℕ) (new : Index) : Type 0 where
  pub finds : (k : Key) → place_by new k ≡ option_or (place_by old k) (if is_key k key then Some place else None)

-- ---- room

-- a merged gate has a slot
abbrev pub HasSlotFor : Table → Option Key → Type 0
HasSlotFor t None = Unit {0}
HasSlotFor t (Some k) = IfSome (gate_of k) (λ g. HasSlot t g.0 g.1)

-- how many keys the map has more at most
abbrev pub others_of : Option Key → ℕ
others_of None = 0
others_of (Some k) = option_map_or (λ g. 0) (gate_of k) 1

abbrev pub others_in : List (Option Key) → ℕ
others_in [] = 0
others_in (k ∷ ks) = others_of k + others_in ks

-- there is room for entries with these keys
pub record HasRoom (index : Index) (keys : List (Option Key)) : Type 0 where
  pub slots : AllByRecursion (HasSlotFor index.merges) keys
  pub spare_keys : others_in keys ≤ spare index.others

-- an entry with this key takes no more room than there was made for it
pub record TakesRoom (old : Index) (key : Option Key) (new : Index) : Type 0 where
  pub slots : (side : Side) → length (slots_of old.merges side) ≤ length (slots_of new.merges side)
  pub spare_keys : spare old.others ≤ spare new.others + others_of key
