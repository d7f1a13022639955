-- How two circuits become a pair: their inputs and outputs are matched by position, or by name.
use Rattle.std.specs.Prelude.{◌≡◌, ◌≢◌, ℕ, ◌<◌, Bool, true, false, List, length, Option, None, if◌then◌else◌}
use Rattle.std.specs.List.{slice_index_or}
use Rattle.symbol_names.specs.NameList.{name_at}
use Rattle.netlist.specs.declared.unlike.Unlike.{Unlike}
use Rattle.netlist.specs.Circuit.{Aig}
use Rattle.netlist.specs.Net.{AigPair}
use Rattle.netlist.specs.Unlike.{unlike_of}
use Rattle.netlist.specs.ByName.{arranged, unlike_by_name}

-- ---- as it is computed

-- B as it stands in the pair: by name its inputs and outputs are in A's order
abbrev pub matched_to : Bool → Aig → Aig → Aig
matched_to by_name a b = if by_name then arranged a b else b

abbrev pub paired : Bool → Aig → Aig → AigPair
paired by_name a b = record { a = a; b = matched_to by_name a b }

-- why the circuits are no pair, if they are none
abbrev pub unlike_in : Bool → Aig → Aig → Option Unlike
unlike_in by_name a b = if by_name then unlike_by_name a b else unlike_of a b

-- ---- what it means

-- each place has a name, and no other place has the same
pub record TellApart (names : List (Option (List ℕ))) : Type 0 where
  pub named : (k : ℕ) → k < length names → name_at names k ≢ None
  pub apart : (j k : ℕ) → j < length names → k < length names → name_at names j ≡ name_at names k → j ≡ k

-- what stands at place k is what B has where it has A's name of place k
pub record StandsByName (of_a of_b : List (Option (List ℕ))) (b placed : List ℕ) (k : ℕ) : Type 0 where
  pub place : ℕ
  pub inside : place < length of_b
  pub same : name_at of_b place ≡ name_at of_a k
  pub stands : slice_index_or placed k 0 ≡ slice_index_or b place 0

-- B's inputs, or its outputs, in A's order by name: names tell those of A apart and those of B, and each one of B stands
-- where A has its name
pub record ArePlaced (of_a of_b : List (Option (List ℕ))) (b placed : List ℕ) : Type 0 where
  pub count : length placed ≡ length b
  pub count_a : length of_a ≡ length b
  pub count_b : length of_b ≡ length b
  pub apart_a : TellApart of_a
  pub apart_b : TellApart of_b
  pub each : (k : ℕ) → k < length of_a → StandsByName of_a of_b b placed k

-- B's inputs and outputs are in A's order by name; gates and literals are as they were
pub record IsPlaced (a b placed : Aig) : Type 0 where
  pub inputs : ArePlaced a.names.inputs b.names.inputs b.inputs placed.inputs
  pub outputs : ArePlaced a.names.outputs b.names.outputs b.outputs placed.outputs
  pub others : placed ≡ record b { inputs = placed.inputs; outputs = placed.outputs; names = a.names }

-- how B stands in the pair: by name it is so placed, and by position it is as it is
abbrev pub IsMatched : Bool → Aig → Aig → Aig → Type 0
IsMatched true a b placed = IsPlaced a b placed
IsMatched false a b placed = placed ≡ b
