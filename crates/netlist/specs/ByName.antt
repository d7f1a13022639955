-- Pairing two circuits by the names of their inputs and outputs.
use Rattle.std.specs.Prelude.{◌≡◌, ◌⊎◌, ◌<◌, ℕ, slice_index, Bool, false, not, Option, None, Some, List, length, map, take}
use Rattle.std.specs.List.{find, list_any, range_with_len, slice_index_or}
use Rattle.std.specs.Option.{option_map, option_or, is_some, unwrap_or}
use Rattle.std.specs.Str.{bytes_eq}
use Rattle.lits.specs.declared.node.Side.TheVariants.{A, B}
use Rattle.symbol_names.specs.NameList.{name_at}
use Rattle.netlist.specs.declared.unlike.Unlike.{Unlike}
use Rattle.netlist.specs.declared.unlike.Unlike.TheVariants.{NoName, Doubled, Missing, NoMemory}
use Rattle.netlist.specs.declared.port.Port.{Port}
use Rattle.netlist.specs.declared.port.Port.TheVariants.{Input, Output}
use Rattle.netlist.specs.Place.{place_of}
use Rattle.netlist.specs.Circuit.{Aig, value_in}
use Rattle.netlist.specs.Unlike.{unlike_of}

-- both are names, of the same bytes
abbrev pub same_name : Option (List ℕ) → Option (List ℕ) → Bool
same_name (Some xs) (Some ys) = bytes_eq xs ys
same_name (Some xs) None = false
same_name None name = false

-- the place of the first that has the name
abbrev pub place_named : List (Option (List ℕ)) → Option (List ℕ) → Option ℕ
place_named names name = place_of (same_name name) names

-- some have the name
abbrev pub has_name : List (Option (List ℕ)) → Option (List ℕ) → Bool
has_name names name = list_any (same_name name) names

-- the least of the first n numbers that passes the test
abbrev pub least : (ℕ → Bool) → ℕ → Option ℕ
least test n = find test (range_with_len 0 n)

-- the place has no name
abbrev pub is_nameless : List (Option (List ℕ)) → ℕ → Bool
is_nameless names k = not (is_some (name_at names k))

-- an earlier place has its name
abbrev pub is_doubled : List (Option (List ℕ)) → ℕ → Bool
is_doubled names k = has_name (take k names) (name_at names k)

-- the others haven't its name
abbrev pub is_missing : List (Option (List ℕ)) → List (Option (List ℕ)) → ℕ → Bool
is_missing others names k = not (has_name others (name_at names k))

-- the least place that has no name, or the name of an earlier one, or a name that the others haven't
abbrev pub nameless : List (Option (List ℕ)) → Option ℕ
nameless names = least (is_nameless names) (length names)

abbrev pub doubled : List (Option (List ℕ)) → Option ℕ
doubled names = least (is_doubled names) (length names)

abbrev pub missing : List (Option (List ℕ)) → List (Option (List ℕ)) → Option ℕ
missing others names = least (is_missing others names) (length names)

-- why the names at one kind of port don't tell its places apart: the first cause of these
unfoldable pub unlike_sides : Port → List (Option (List ℕ)) → List (Option (List ℕ)) → Option Unlike
unlike_sides port a b =
    option_or (option_map (NoName A port) (nameless a))
    (option_or (option_map (NoName B port) (nameless b))
    (option_or (option_map (Doubled A port) (doubled a)) (option_map (Doubled B port) (doubled b))))

-- why they make no pairing: one side's don't tell its places apart, or one of A is missing in B
unfoldable pub unlike_names : Port → List (Option (List ℕ)) → List (Option (List ℕ)) → Option Unlike
unlike_names port a b = option_or (unlike_sides port a b) (option_map (Missing port) (missing b a))

-- why two circuits' inputs and outputs make no pairing: the inputs' names don't, or the outputs' names don't
abbrev pub unlike_ports : Aig → Aig → Option Unlike
unlike_ports a b =
    option_or (unlike_names Input a.names.inputs b.names.inputs) (unlike_names Output a.names.outputs b.names.outputs)

-- why two circuits are no net by their names: the numbers of inputs or of outputs differ, or the names make no pairing
abbrev pub unlike_by_name : Aig → Aig → Option Unlike
unlike_by_name a b = option_or (unlike_of a b) (unlike_ports a b)

-- what stands at the place of the name of place k of A among the names of B
abbrev pub at_name : List (Option (List ℕ)) → List (Option (List ℕ)) → List ℕ → ℕ → ℕ
at_name a b xs k = slice_index_or xs (unwrap_or (place_named b (name_at a k)) 0) 0

-- what stands at the names of B, in the order of the same names of A
unfoldable pub in_order : List (Option (List ℕ)) → List (Option (List ℕ)) → List ℕ → List ℕ
in_order a b xs = map (at_name a b xs) (range_with_len 0 (length a))

-- B with its inputs and outputs in A's order, and under A's names. Gates, literals and constraints stay as they are
abbrev pub arranged : Aig → Aig → Aig
arranged a b = record b {
  inputs = in_order a.names.inputs b.names.inputs b.inputs;
  outputs = in_order a.names.outputs b.names.outputs b.outputs;
  names = a.names;
}

-- what stands at place k of the new order stood, in B, at a place of the same name as A's place k
pub record HasNamesake (a b : List (Option (List ℕ))) (old new : List ℕ) (k : ℕ) : Type 0 where
  pub place : ℕ
  pub within : place < length old
  pub name : name_at b place ≡ name_at a k
  pub same : slice_index new k ≡ slice_index old place

-- the truth values of A's inputs, each at the place of its name among B's inputs
abbrev pub put_back : Aig → Aig → List Bool → List Bool
put_back a b bits =
    map (λ k. slice_index_or bits (unwrap_or (place_named a.names.inputs (name_at b.names.inputs k)) 0) false)
    (range_with_len 0 (length b.names.inputs))

-- the value of B's output of the name of A's output j, where each input of B has the truth value of A's of its name
abbrev pub namesake_value : Aig → Aig → List Bool → ℕ → Bool
namesake_value a b bits j = value_in b (put_back a b bits) (at_name a.names.outputs b.names.outputs b.outputs j)

-- an error is the cause, or want of memory
abbrev pub IsTold : Option Unlike → Unlike → Type 0
IsTold cause e = (cause ≡ Some e) ⊎ (e ≡ NoMemory)
