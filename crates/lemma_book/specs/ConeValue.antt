-- What is known of the values of gates on one input, while a node is evaluated by its cone.
use Rattle.std.specs.Prelude.{◌≡◌, ℕ, ◌<◌, ◌≤◌, ◌==◌, Bool, true, not, ◌&&◌, if◌then◌else◌, Option, None, Some, List, Result, MatchResult, MatchOption, IfSome, IsSome}
use Rattle.std.specs.List.{slice_index_or}
use Rattle.lits.specs.Clause.{has}
use Rattle.netlist.specs.declared.gate.Placed.{Placed}
use Rattle.netlist.specs.declared.gate.Fanins.{Fanins}
use Rattle.netlist.specs.Net.{AigPair, node_at, value_of}

-- the value of the node at a position
abbrev pub value_at : AigPair → List Bool → ℕ → Bool
value_at net bits p = value_of net bits (node_at net p)

-- the value of a literal, where v gives each position's value
abbrev pub placed_value : (ℕ → Bool) → Placed → Bool
placed_value v l = if l.neg then not (v l.position) else v l.position

-- the node at the position is the AND of two earlier ones
pub record IsAndAt (net : AigPair) (bits : List Bool) (position : ℕ) (f : Fanins) : Type 0 where
  pub left : f.left.position < position
  pub right : f.right.position < position
  pub value : value_at net bits position ≡ (placed_value (value_at net bits) f.left && placed_value (value_at net bits) f.right)

-- the value at a position, in a table of those that are known
abbrev pub known_at : List (Option Bool) → ℕ → Option Bool
known_at values p = slice_index_or values p None

-- each position whose value is known is listed
abbrev pub AreListed : List (Option Bool) → List ℕ → Type 0
AreListed values listed = (p : ℕ) (b : Bool) → known_at values p ≡ Some b → has ◌==◌ listed p ≡ true

module _ (known : List (Option Bool)) where
  -- each value that is known is that of the node
  abbrev pub AreValues : AigPair → List Bool → Type 0
  AreValues net bits = (p : ℕ) → IfSome (known_at known p) (λ b. b ≡ value_at net bits p)

  abbrev pub IsUnknown : ℕ → Type 0
  IsUnknown p = known_at known p ≡ None

  -- the value of the node at the position, or an earlier node whose value is needed and isn't known
  abbrev pub IsValueOrNeeds : AigPair → List Bool → ℕ → Result Bool ℕ → Type 0
  IsValueOrNeeds net bits p r = MatchResult r (λ b. b ≡ value_at net bits p) (λ q. (q < p) × IsUnknown q)

  -- a position up to the sought one whose value isn't known; none where that of the sought one is known
  abbrev pub IsNext : ℕ → Option ℕ → Type 0
  IsNext sought o = MatchOption o (IsSome (known_at known sought)) (λ p. (p ≤ sought) × IsUnknown p)
