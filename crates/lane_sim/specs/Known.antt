-- What is known of a net's rows before they are filled.
use Rattle.std.specs.Prelude.{ℕ, ◌*◌, ◌<◌, ◌≤◌, Bool, List, length, take}
use Rattle.netlist.specs.Net.{AigPair, nodes_of, node_at}
use Rattle.word_sim.specs.Rows.{HasBits, row_at, value_on}

-- of rows that stand one after another, each of so many words, the first so many are the nodes' values on the patterns of these words
pub record AreKnown (net : AigPair) (patterns : List (List Bool)) (words stride : ℕ) (rows : List ℕ) : Type 0 where
  pub few : 64 * words ≤ length patterns
  pub wide : words ≤ stride
  pub room : length (nodes_of net) * stride ≤ length rows
  pub each : (p : ℕ) → p < length (nodes_of net)
      → HasBits (64 * words) (value_on net patterns (node_at net p)) (take words (row_at stride p rows))
