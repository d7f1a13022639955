-- The net after edits that have no fault, and the nodes that they touch.
use Rattle.std.specs.Prelude.{ℕ, Bool, false, List, [], ◌∷◌, option_map}
use Rattle.std.specs.List.{list_any}
use Rattle.lits.specs.declared.node.Node.{Node}
use Rattle.lits.specs.declared.node.Node.TheVariants.{Gate, Xor}
use Rattle.lits.specs.Same.{same_node}
use Rattle.netlist.specs.declared.gate.And.{And}
use Rattle.netlist.specs.Circuit.{var_of}
use Rattle.netlist.specs.Edit.{with_gate, with_new, without_gate, with_output, with_side}
use Rattle.netlist.specs.Net.{AigPair, circuit_of}
use Rattle.netlist_edits.specs.declared.edit.Edit.{Edit}
use Rattle.netlist_edits.specs.declared.edit.Edit.TheVariants.{Set, New, Remove, Out}

-- the gate that a literal names, with its fanins
abbrev pub gate : ℕ → ℕ → ℕ → And
gate lhs r0 r1 = record { var = var_of lhs; left = r0; right = r1 }

-- The net after an edit. The other side stays, and on this one the inputs, the constraints, the names and the order of the
-- other gates.
abbrev pub edited : AigPair → Edit → AigPair
edited net (Set side lhs r0 r1) = with_side net side (with_gate (circuit_of net side) (gate lhs r0 r1))
edited net (New side lhs r0 r1 place) =
    with_side net side (with_new (circuit_of net side) (gate lhs r0 r1) (option_map var_of place))
edited net (Remove side lhs) = with_side net side (without_gate (circuit_of net side) (var_of lhs))
edited net (Out side j lit) = with_side net side (with_output (circuit_of net side) j lit)

-- the net after a list of edits, one after the other
abbrev pub edited_all : AigPair → List Edit → AigPair
edited_all net [] = net
edited_all net (edit ∷ edits) = edited_all (edited net edit) edits

-- The node that an edit touches: a gate that it sets or takes out, or the XOR of an output that it changes. What was known
-- of a node by clauses without a literal of such a node is known after it too.
abbrev pub touched : Edit → Node → Bool
touched (Set side lhs r0 r1) node = same_node node (Gate side (var_of lhs))
touched (New side lhs r0 r1 place) node = false
touched (Remove side lhs) node = same_node node (Gate side (var_of lhs))
touched (Out side j lit) node = same_node node (Xor j)

-- the node is touched by one of the edits
abbrev pub touched_by : List Edit → Node → Bool
touched_by edits node = list_any (λ edit. touched edit node) edits
