-- What the index of a list of names finds.
use Rattle.std.specs.Prelude.{◌≡◌, ℕ, ◌+◌, ◌*◌, ◌%◌, ◌^◌, Option, Some, List}
use Rattle.std.specs.Borrow.{Bor}
use Rattle.std.specs.BTreeMap.{BTreeMap, get_by}
use Rattle.std.specs.Cmp.Lexicographic.{slice_cmp}
use Rattle.std.specs.List.{fold}
use Rattle.std.specs.Ordering.{nat_cmp, ordering_then}
use Rattle.std.specs.declared.cmp.Ordering.{Ordering}
use Rattle.netlist.specs.ByName.{place_named}

-- the number with one digit more
unfoldable pub with_digit : ℕ → ℕ → ℕ
with_digit n byte = (n * 257 % 2 ^ 64 + byte) % 2 ^ 64

-- a name's bytes as the digits of a number to the base 257, modulo 2 ^ 64. Two names may have one number
unfoldable pub number : List ℕ → ℕ
number name = fold with_digit 0 name

-- how a name compares to a key, which is a number and a name
abbrev pub key_order : List ℕ → ℕ × Bor (List ℕ) → Ordering
key_order name key = ordering_then (nat_cmp (number name) key.0) (slice_cmp nat_cmp name key.1.now)

-- the index finds each name at its first place, and no other name
pub record IsIndex (places : BTreeMap (ℕ × Bor (List ℕ)) ℕ) (names : List (Option (List ℕ))) : Type 0 where
  pub finds : (name : List ℕ) → get_by (key_order name) places ≡ place_named names (Some name)
