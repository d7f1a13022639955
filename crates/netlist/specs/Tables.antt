-- What a net's tables keep beside its two circuits.
use Rattle.std.specs.Prelude.{◌≡◌, ◌+◌, ◌-◌, ◌<◌, ◌≤◌, ℕ, Some, List, length, slice_get, slice_set}
use Rattle.std.specs.Vec.{vec_capacity}
use Rattle.netlist.specs.declared.gate.Fanins.{Fanins}
use Rattle.netlist.specs.declared.tables.Tables.{Tables}
use Rattle.netlist.specs.Net.{AigPair, definitions, nodes_of, all_fanins}
use Rattle.netlist.specs.Miter.{variables_of}
use Rattle.netlist.specs.Starts.{AreStarts, WereStarts}

-- the fanins of all gates by positions, and the numbers of the nodes' first clauses
pub record AreTables (net : AigPair) (t : Tables) : Type 0 where
  pub fanins : t.fanins.items ≡ all_fanins net
  pub starts : AreStarts net t.starts.items

-- the tables have the room that those of the pair take
pub record HasRoom (net : AigPair) (t : Tables) : Type 0 where
  pub fanins : length (definitions net) ≤ vec_capacity t.fanins
  pub starts : length (variables_of net) + 1 ≤ vec_capacity t.starts

-- as many as there are gates, and all right once those of gate k are written
pub record WereFanins (net : AigPair) (k : ℕ) (fanins : List Fanins) : Type 0 where
  pub count : length fanins ≡ length (definitions net)
  pub written : (f : Fanins) → slice_get (all_fanins net) k ≡ Some f → slice_set fanins k f ≡ all_fanins net

-- the tables are right but for the gate at a position, which may have got other fanins
pub record AreButGate (net : AigPair) (position : ℕ) (t : Tables) : Type 0 where
  pub first : 1 + length net.a.inputs ≤ position
  pub last : position < length (nodes_of net)
  pub fanins : WereFanins net (position - (1 + length net.a.inputs)) t.fanins.items
  pub starts : WereStarts net position t.starts.items

-- the tables are right but for the XOR at a place among the variables, one of whose outputs may have got another literal
pub record AreButXor (net : AigPair) (place : ℕ) (t : Tables) : Type 0 where
  pub within : place < length (variables_of net)
  pub fanins : t.fanins.items ≡ all_fanins net
  pub starts : WereStarts net place t.starts.items
