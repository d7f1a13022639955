-- The patterns of a check, and what they show of the outputs before any query.
use Rattle.std.specs.Prelude.{◌≡◌, ◌⊎◌, ℕ, ◌+◌, ◌/◌, ◌%◌, ◌<◌, ◌&&◌, Bool, true, false, Option, None, Some, List, [], ◌∷◌, ◌++◌, length, map}
use Rattle.std.specs.List.{find, range_with_len, slice_index_or}
use Rattle.netlist.specs.Circuit.{output_value}
use Rattle.netlist.specs.Net.{AigPair, differs, meets_constraints}
use Rattle.word_sim.specs.Patterns.{Patterns, seeded, is_set}
use Rattle.word_sim.specs.Rows.{Signatures}
use Rattle.sweep_workers.specs.Swept.{IsPoolFor}
use Rattle.check_session.specs.declared.options.Options.{Options}

-- patterns joined the pool, if any
pub record Extends (old new : Patterns) : Type 0 where
  pub added : List (List Bool)
  pub is : new.patterns ≡ old.patterns ++ added

-- the input joined behind the others; or it hasn't a truth value for each input, and none did
abbrev pub MayJoin : List Bool → Patterns → Patterns → Type 0
MayJoin input old new = (new ≡ old)
    ⊎ ((length input ≡ old.inputs) × (new ≡ record { inputs = old.inputs; patterns = old.patterns ++ input ∷ [] }))

-- the pool that the seed draws for the pair
abbrev pub first_pool : AigPair → Options → Patterns
first_pool net o = seeded o.seed o.words (length net.a.inputs)

-- patterns for the pair's checks: each has a truth value for each input, and they begin with those that the seed draws
pub record IsPoolOf (net : AigPair) (o : Options) (pool : Patterns) : Type 0 where
  pub fits : IsPoolFor net pool
  pub begins : Extends (first_pool net o) pool

-- the input is admitted: each constraint of both circuits is true on it
abbrev pub admits : AigPair → List Bool → Bool
admits net bits = meets_constraints net.a bits && meets_constraints net.b bits

-- the input is admitted, and both circuits' outputs j have two values on it
abbrev pub tells_apart : AigPair → ℕ → List Bool → Bool
tells_apart net j bits = admits net bits && differs (output_value net.a bits j) (output_value net.b bits j)

-- no pattern tells an output apart
abbrev pub NoneApart : AigPair → List (List Bool) → Type 0
NoneApart net patterns = (j : ℕ) → j < length net.a.outputs → find (tells_apart net j) patterns ≡ None

-- the least output that some pattern tells apart, and the first pattern that does
pub record IsFirstApart (net : AigPair) (patterns : List (List Bool)) (j : ℕ) (input : List Bool) : Type 0 where
  pub within : j < length net.a.outputs
  pub first : find (tells_apart net j) patterns ≡ Some input
  pub least : (k : ℕ) → k < j → find (tells_apart net k) patterns ≡ None

-- no pattern joined those of before; or none of those tells an output apart, and this input joined behind them
abbrev pub IsAmongOrJoins : AigPair → List (List Bool) → List (List Bool) → List Bool → Type 0
IsAmongOrJoins net before patterns input = (patterns ≡ before) ⊎ (NoneApart net before × (patterns ≡ before ++ input ∷ []))

-- ---- as the rows of simulation show it

-- bit p of a row
abbrev pub bit_of : List ℕ → ℕ → Bool
bit_of row p = is_set (slice_index_or row (p / 64) 0) (p % 64)

-- the bits of a row are the truth values of the patterns' numbers
abbrev pub HasBitsFor : List (List Bool) → (List Bool → Bool) → List ℕ → Type 0
HasBitsFor patterns truth row = (p : ℕ) → p < length patterns → bit_of row p ≡ truth (slice_index_or patterns p [])

-- the values of the nodes behind the constant on pattern p, one for each of so many inputs
abbrev pub HasBitsOf : Signatures → ℕ → ℕ → List Bool → Type 0
HasBitsOf sigs p inputs bits = bits ≡ map (λ k. bit_of (slice_index_or sigs.rows (k + 1) []) p) (range_with_len 0 inputs)

-- the least of so many numbers that passes the test; none where none does
pub record IsLeast (count : ℕ) (test : ℕ → Bool) (n : ℕ) : Type 0 where
  pub below : n < count
  pub passes : test n ≡ true
  pub least : (p : ℕ) → p < n → test p ≡ false

abbrev pub IsFirstOf : ℕ → (ℕ → Bool) → Option ℕ → Type 0
IsFirstOf count test None = (p : ℕ) → p < count → test p ≡ false
IsFirstOf count test (Some n) = IsLeast count test n
