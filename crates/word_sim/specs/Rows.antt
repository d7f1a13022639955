-- The row of a node: its values on all patterns, 64 to a word.
use Rattle.std.specs.Prelude.{◌≡◌, ℕ, ◌+◌, ◌*◌, ◌<◌, ◌≤◌, nat_lt, ◌&&◌, Bool, not, List, [], length, take, drop, if◌then◌else◌}
use Rattle.std.specs.List.{slice_index_or}
use Rattle.lits.specs.declared.node.Node.{Node}
use Rattle.netlist.specs.Net.{AigPair, nodes_of, node_at, value_of}
use Rattle.word_sim.specs.Patterns.{is_set, words_of}

-- the words hold so many truth values, bit b of word w that of number 64 w + b, and the bits behind the last are 0
pub record HasBits (count : ℕ) (truth : ℕ → Bool) (words : List ℕ) : Type 0 where
  pub size : length words ≡ words_of count
  pub bits : (w b : ℕ) → w < length words → b < 64
      → is_set (slice_index_or words w 0) b ≡ (nat_lt (64 * w + b) count && truth (64 * w + b))

-- the node's value on pattern p
abbrev pub value_on : AigPair → List (List Bool) → Node → ℕ → Bool
value_on net patterns node p = value_of net (slice_index_or patterns p []) node

-- the row of a node
abbrev pub IsRow : AigPair → List (List Bool) → Node → List ℕ → Type 0
IsRow net patterns node row = HasBits (length patterns) (value_on net patterns node) row

-- a value, or its negation
abbrev pub turned : Bool → Bool → Bool
turned neg x = if neg then not x else x

-- the mask that turns all bits of a word, or none
abbrev pub mask_of : Bool → ℕ
mask_of neg = if neg then 18446744073709551615 else 0

-- the row of a position, where the rows of so many words stand one after another
abbrev pub row_at : ℕ → ℕ → List ℕ → List ℕ
row_at words position rows = take words (drop (position * words) rows)

-- the rows of the nodes at the first so many positions stand there, in words for all nodes
pub record AreFilled (net : AigPair) (patterns : List (List Bool)) (positions : ℕ) (rows : List ℕ) : Type 0 where
  pub size : length rows ≡ length (nodes_of net) * words_of (length patterns)
  pub each : (p : ℕ) → p < positions → IsRow net patterns (node_at net p) (row_at (words_of (length patterns)) p rows)

-- the words are the rows of all nodes, in the order of positions
abbrev pub AreRows : AigPair → List (List Bool) → List ℕ → Type 0
AreRows net patterns rows = AreFilled net patterns (length (nodes_of net)) rows

-- the row of one position is written, those before it stay
pub record IsPut (words position : ℕ) (old new : List ℕ) : Type 0 where
  pub size : length new ≡ length old
  pub before : (q : ℕ) → q < position → row_at words q new ≡ row_at words q old

-- what stands from a position's row on is as it was
abbrev pub IsKeptFrom : ℕ → ℕ → List ℕ → List ℕ → Type 0
IsKeptFrom words position old new = drop (position * words) new ≡ drop (position * words) old

-- the rows of all nodes of a net, each with the values on so many patterns
pub record Signatures : Type 0 where
  pub patterns : ℕ
  pub rows : List (List ℕ)

-- they are the rows of this net's nodes on these patterns, of which there are some, in the order of positions
pub record AreSignatures (net : AigPair) (patterns : List (List Bool)) (sigs : Signatures) : Type 0 where
  pub size : sigs.patterns ≡ length patterns
  pub some : 1 ≤ length patterns
  pub count : length sigs.rows ≡ length (nodes_of net)
  pub each : (p : ℕ) → p < length sigs.rows → IsRow net patterns (node_at net p) (slice_index_or sigs.rows p [])
