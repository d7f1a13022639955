-- The first fault of an edit, in the order in which they are judged. That memory is refused comes after all of them.
use Rattle.std.specs.Prelude.{ℕ, Bool, not, Option, Some, None, length, nat_le, option_map, ◌==◌, if◌then◌else◌}
use Rattle.std.specs.Option.{option_or}
use Rattle.netlist.specs.Circuit.{Aig, var_of, is_over, variables_in, most}
use Rattle.netlist.specs.Edit.{has_gate, is_earlier, reads}
use Rattle.netlist.specs.Net.{AigPair, circuit_of}
use Rattle.netlist_edits.specs.Line.{has_numbers_of_a_line}
use Rattle.netlist_edits.specs.declared.edit.Edit.{Edit}
use Rattle.netlist_edits.specs.declared.edit.Edit.TheVariants.{Set, New, Remove, Out}
use Rattle.netlist_edits.specs.declared.error.EditErr.{EditErr}
use Rattle.netlist_edits.specs.declared.error.EditErr.TheVariants.{BadLine, NoGate, NoLiteral, NotEarlier, Taken, InUse, NoOutput, GateLimit}

-- this fault, where the test is true
abbrev pub when : Bool → EditErr → Option EditErr
when test fault = if test then Some fault else None

-- what is judged first, and else what is judged next
infixr 20 ◌or_else◌
abbrev pub ◌or_else◌ : Option EditErr → Option EditErr → Option EditErr
first or_else next = option_or first next

-- ---- a literal in a circuit

-- its variable is the constant, an input or a gate
abbrev pub is_there : Aig → ℕ → Bool
is_there c lit = is_over (variables_in c) lit

abbrev pub no_gate : Aig → ℕ → Option EditErr
no_gate c lit = when (not (has_gate c (var_of lit))) (NoGate lit)

abbrev pub no_literal : Aig → ℕ → Option EditErr
no_literal c lit = when (not (is_there c lit)) (NoLiteral lit)

abbrev pub not_earlier : Aig → Option ℕ → ℕ → Option EditErr
not_earlier c place lit = when (not (is_earlier c place lit)) (NotEarlier lit)

-- the fanins of a gate that stands right before the gate of a variable, is that gate, or stands last
abbrev pub fanins_fault : Aig → Option ℕ → ℕ → ℕ → Option EditErr
fanins_fault c place r0 r1 =
    no_literal c r0 or_else no_literal c r1 or_else not_earlier c place r0 or_else not_earlier c place r1

-- the gate before which a new one is to stand; none for the end
abbrev pub no_place : Aig → Option ℕ → Option EditErr
no_place c None = None
no_place c (Some lhs) = no_gate c lhs

-- ---- an edit

abbrev pub set_fault : Aig → ℕ → ℕ → ℕ → Option EditErr
set_fault c lhs r0 r1 = no_gate c lhs or_else fanins_fault c (Some (var_of lhs)) r0 r1

abbrev pub new_fault : Aig → ℕ → ℕ → ℕ → Option ℕ → Option EditErr
new_fault c lhs r0 r1 place =
    when (length c.gates == most) GateLimit
    or_else when (is_there c lhs) (Taken lhs)
    or_else no_place c place
    or_else fanins_fault c (option_map var_of place) r0 r1

abbrev pub drop_fault : Aig → ℕ → Option EditErr
drop_fault c lhs = no_gate c lhs or_else when (reads c (var_of lhs)) (InUse lhs)

abbrev pub out_fault : Aig → ℕ → ℕ → Option EditErr
out_fault c j lit = when (nat_le (length c.outputs) j) (NoOutput j) or_else no_literal c lit

-- the first fault of an edit whose numbers a line may have
abbrev pub fault_in : AigPair → Edit → Option EditErr
fault_in net (Set side lhs r0 r1) = set_fault (circuit_of net side) lhs r0 r1
fault_in net (New side lhs r0 r1 place) = new_fault (circuit_of net side) lhs r0 r1 place
fault_in net (Remove side lhs) = drop_fault (circuit_of net side) lhs
fault_in net (Out side j lit) = out_fault (circuit_of net side) j lit

-- the first fault of an edit; its numbers are judged before it is held against the net
abbrev pub fault_of : AigPair → Edit → Option EditErr
fault_of net edit = when (not (has_numbers_of_a_line edit)) BadLine or_else fault_in net edit
