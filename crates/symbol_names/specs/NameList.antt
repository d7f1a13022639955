-- A list of names (A. Biere, The AIGER And-Inverter Graph Format, 2007): a list with one place per
-- input, or per output, each a name, which is a list of bytes, or none.
use Rattle.std.specs.Prelude.{◌≡◌, ℕ, ◌+◌, ◌-◌, ◌≤◌, ◌<◌, ◌==◌, not, Bool, true, false, List, [], ◌∷◌, ◌++◌, Option, Some, None, length, map, take, drop, replicate, slice_get, nat_lt, if◌then◌else◌}
use Rattle.std.specs.List.{list_all}
use Rattle.symbol_names.specs.declared.name_list.Span.{Span}

-- the bytes as a name: an empty one is none
abbrev pub name_of : List ℕ → Option (List ℕ)
name_of [] = None
name_of (b ∷ bs) = Some (b ∷ bs)

abbrev pub joined : Option (Option (List ℕ)) → Option (List ℕ)
joined (Some name) = name
joined None = None

-- the name at a place, from 0; none also behind the last place
abbrev pub name_at : List (Option (List ℕ)) → ℕ → Option (List ℕ)
name_at names k = joined (slice_get names k)

-- none, or a name, which has one byte or more, and none of them is LF (10), which ends a line
abbrev pub is_name : Option (List ℕ) → Bool
is_name None = true
is_name (Some []) = false
is_name (Some (b ∷ bs)) = list_all (λ c. not (c == 10)) (b ∷ bs)

-- ---- how a list of names is kept

-- the name that a span has among the bytes
abbrev pub name_in : List ℕ → Span → Option (List ℕ)
name_in bytes span = name_of (take span.len (drop span.start bytes))

abbrev pub none_at : Span
none_at = record { start = 0; len = 0 }

-- the names of the first places by their spans; those behind have none
abbrev pub names_in : ℕ → List ℕ → List Span → List (Option (List ℕ))
names_in count bytes spans = map (name_in bytes) spans ++ replicate (count - length spans) None

-- the span ends among the bytes
abbrev pub IsWithin : List ℕ → Span → Type 0
IsWithin bytes span = span.start + span.len ≤ length bytes

-- no more spans than places, and each ends among the bytes
pub record AreSpans (count : ℕ) (bytes : List ℕ) (spans : List Span) : Type 0 where
  pub few : length spans ≤ count
  pub within : list_all (λ s. not (nat_lt (length bytes) (s.start + s.len))) spans ≡ true
