-- The input that a model gives.
use Rattle.std.specs.Prelude.{ℕ, Bool, true, not, List, length, map, slice_set, ◌<◌, ⊤, if◌then◌else◌}
use Rattle.std.specs.List.{range_with_len}
use Rattle.lits.specs.Clause.{has}
use Rattle.lits.specs.declared.node.Node.{Node}
use Rattle.lits.specs.declared.node.Node.TheVariants.{Input}
use Rattle.lits.specs.declared.literal.Lit.{Lit}
use Rattle.netlist.specs.Net.{AigPair}
use Rattle.netlist.specs.Miter.{positive}
use Rattle.lits.specs.Same.{same_lit}

-- an input is true exactly where the model has its literal, so one of which the model says nothing is false
abbrev pub input_from : AigPair → List Lit → List Bool
input_from net model = map (λ k. has same_lit model (positive (Input k))) (range_with_len 0 (length net.a.inputs))

-- the truth values, with true at the input that the node is
abbrev pub marked_at : Node → List Bool → List Bool
marked_at (Input k) bits = slice_set bits k true
marked_at _ bits = bits

-- the truth values where the literal is true too, if it isn't negated
abbrev pub marked : Lit → List Bool → List Bool
marked lit bits = if lit.neg then bits else marked_at lit.node bits

-- the truth values, with this one at the input that the node is
abbrev pub with_input : Node → Bool → List Bool → List Bool
with_input (Input k) value bits = slice_set bits k value
with_input _ value bits = bits

-- the truth value of a node that gives a literal of it, negated or not, another value than this one
abbrev pub other_value : Bool → Bool → Bool
other_value value neg = if value then neg else not neg

-- an input's index is below the number of inputs
abbrev pub IsBelow : ℕ → Node → Type 0
IsBelow inputs (Input k) = k < inputs
IsBelow inputs _ = ⊤
