-- The numbers of the nodes' first clauses.
use Rattle.std.specs.Prelude.{◌≡◌, ℕ, ◌+◌, ◌*◌, ◌<◌, ◌≤◌, List, length, take, slice_index}
use Rattle.std.specs.List.{flat_map}
use Rattle.netlist.specs.Net.{AigPair}
use Rattle.netlist.specs.Miter.{variables_of, axioms_of}

-- the number, from 1, of the first clause of the node with a variable, the variable counted from 0
unfoldable pub first_clause : AigPair → ℕ → ℕ
first_clause net place = length (flat_map (axioms_of net) (take place (variables_of net))) + 1

-- they are the numbers of the first clauses of all nodes, and last that of the first clause behind theirs
pub record AreStarts (net : AigPair) (starts : List ℕ) : Type 0 where
  pub count : length starts ≡ length (variables_of net) + 1
  pub each : (place : ℕ) → place ≤ length (variables_of net) → slice_index starts place ≡ first_clause net place
  pub few : (place : ℕ) → place ≤ length (variables_of net) → slice_index starts place ≤ 4 * place + 1

-- the numbers of the first clauses of the nodes before a place, and the next number
pub record AreFirst (net : AigPair) (numbers : List ℕ) (place next : ℕ) : Type 0 where
  pub count : length numbers ≡ place
  pub next_is : next ≡ first_clause net place
  pub few_next : next ≤ 4 * place + 1
  pub each : (k : ℕ) → k < place → slice_index numbers k ≡ first_clause net k
  pub few : (k : ℕ) → k < place → slice_index numbers k ≤ 4 * k + 1

-- as many numbers as there are, right up to the node at a place; where the next one is right too, so are all
pub record WereStarts (net : AigPair) (place : ℕ) (starts : List ℕ) : Type 0 where
  pub count : length starts ≡ length (variables_of net) + 1
  pub few : (p : ℕ) → p ≤ length (variables_of net) → slice_index starts p ≤ 4 * p + 1
  pub before : (p : ℕ) → p ≤ place → slice_index starts p ≡ first_clause net p
  pub behind : slice_index starts (place + 1) ≡ first_clause net (place + 1)
      → (p : ℕ) → p ≤ length (variables_of net) → slice_index starts p ≡ first_clause net p
