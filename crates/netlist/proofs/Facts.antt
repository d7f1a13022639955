-- What crates above may cite.
-- ---- nodes and literals that the program finds equal are one; what stands at the place that a test finds
pub use Rattle.netlist.proofs.SameNodes.{equal-number, any_from_find}
-- what is found passes, and has what all elements have
pub use Rattle.netlist.proofs.SameNodes.{found-one, no-facts}
-- what holds of the place
pub use Rattle.netlist.proofs.SameNodes.{at-place}
-- what follows from each fact follows from all; tests that agree pass the same lists
pub use Rattle.netlist.proofs.SameNodes.{all-weaker, list_any-same}
-- the other way round
pub use Rattle.netlist.proofs.SameNodes.{range-has}
-- ---- a circuit's variables and the nodes that they name have one value, a gate's value is the AND of its fanins', and the nodes' values meet all clauses that define the nodes
pub use Rattle.netlist.proofs.NodeValues.{is_circuit}
-- the nodes' values meet the clauses that define the nodes
pub use Rattle.netlist.proofs.NodeValues.{values-meet}
-- ---- which nodes have a position or a CNF variable: each side's variables name nodes with a position, so each literal of a clause that defines a node has a CNF variable
pub use Rattle.netlist.proofs.NodesThere.{has-xor, length-outputs}
-- a gate's node is there exactly where its side has the gate
pub use Rattle.netlist.proofs.NodesThere.{has-gate}
-- so an index of a node that is there is below that number
pub use Rattle.netlist.proofs.NodesThere.{input-below}
-- a node with a position has a CNF variable
pub use Rattle.netlist.proofs.NodesThere.{has-variable}
-- an input or a gate with a CNF variable has a position
pub use Rattle.netlist.proofs.NodesThere.{has-position}
-- ---- values of nodes that give each gate of a cone the AND of its fanins, a cone being a set of nodes closed under fanins, are the nodes' values there, for all truth values of the inputs that agree with them

-- the set has with each gate the nodes of its fanins
pub use Rattle.netlist.proofs.ConeValues.{HasFanins}
-- ---- values that meet the clauses that define the nodes of a cone are the nodes' values there, so a model of a cone's clauses is a real counterexample

-- the set has with each XOR the nodes of its two outputs
pub use Rattle.netlist.proofs.ConeModels.{HasOutputs}
-- the literal of an output
pub use Rattle.netlist.proofs.ConeModels.{output_lit}
-- each output has one
pub use Rattle.netlist.proofs.ConeModels.{output_of-below}
-- ---- over which nodes the clauses are that define a node: the node itself and its fanins or outputs. All of them have CNF variables if the node has one
pub use Rattle.netlist.proofs.ClausesOver.{flat_map-member, variables-outputs}
-- each literal of the clauses is over the set
pub use Rattle.netlist.proofs.ClausesOver.{AreOver}
-- what holds of each element of a list holds of all of them
pub use Rattle.netlist.proofs.ClausesOver.{all-members}
-- a clause keeps to the set when its repeated literals are dropped, and so do the clauses that stay
pub use Rattle.netlist.proofs.ClausesOver.{over-kept}
-- what holds of the clauses that stay, of the first and of those after it
pub use Rattle.netlist.proofs.ClausesOver.{kept-head, kept-rest}
-- the nodes with CNF variables have with each gate its fanins
pub use Rattle.netlist.proofs.ClausesOver.{variables-fanins}
-- each literal of a clause that defines a node with a CNF variable has one
pub use Rattle.netlist.proofs.ClausesOver.{over-variables}
-- ---- numbering is one to one on the nodes that are there, so assignments of nodes and of CNF variables meet the same clauses

-- a node with CNF variable k stands at place k - 1
pub use Rattle.netlist.proofs.NumberedClauses.{variable_at}
-- two nodes with one CNF variable are one
pub use Rattle.netlist.proofs.NumberedClauses.{variable-one}
-- the nodes that have a CNF variable
pub use Rattle.netlist.proofs.NumberedClauses.{variable-some}
-- a node with a CNF variable is there
pub use Rattle.netlist.proofs.NumberedClauses.{variable-has}
-- so numbering keeps which literals are equal
pub use Rattle.netlist.proofs.NumberedClauses.{numbered-same}
-- ---- places in lists that are joined, mapped or cut
pub use Rattle.netlist.proofs.PlaceLemmas.{length-range, slice_get-left, slice_get-right}
-- there is a place exactly where some element passes
pub use Rattle.netlist.proofs.PlaceLemmas.{is_some-place}
-- the element at the place passes
pub use Rattle.netlist.proofs.PlaceLemmas.{at_place}
-- where none passes there is no place; a mapped list has the same one
pub use Rattle.netlist.proofs.PlaceLemmas.{none_from_is_some, place_of-map}
-- ---- a circuit's variables differ, so each is found at its own place, and there are few of them
pub use Rattle.netlist.proofs.VariableLemmas.{few, few_gates_of}
-- in a list without repeats an element stands in no part before it, and a new one may join it
pub use Rattle.netlist.proofs.VariableLemmas.{no_repeat-split, no_repeat_push}
-- its elements are distinct; which of two numbers comes first doesn't matter
pub use Rattle.netlist.proofs.VariableLemmas.{IsDistinct_from, eq_swap}
-- the variables of a circuit
pub use Rattle.netlist.proofs.VariableLemmas.{variables}
-- what stands in one part of a list without repeats isn't in the other
pub use Rattle.netlist.proofs.VariableLemmas.{no_repeat-apart}
-- the middle one of three comes first
pub use Rattle.netlist.proofs.RunLemmas.{or_move}
-- ---- what stands at the position of a gate: the AND of its fanins' values; its fanins stand earlier
pub use Rattle.netlist.proofs.GateLemmas.{IsGateAt}
-- gate k, the gates counted from 0
pub use Rattle.netlist.proofs.GateLemmas.{gate-at}
-- the node at the position of a node is that node, and the node at a position has that position
pub use Rattle.netlist.proofs.GateLemmas.{node-at, position-node}
-- the node at the place after an input's index is that input
pub use Rattle.netlist.proofs.GateLemmas.{node-input}
-- a gate stands where its side's gates begin, and its place among them further on
pub use Rattle.netlist.proofs.NetLemmas.{position-gate}
-- ---- how many gates and nodes there are
pub use Rattle.netlist.proofs.NetLemmas.{length-definitions, length-nodes}
-- the place in two lists that are joined
pub use Rattle.netlist.proofs.PlaceLemmas.{or_place, place_of-append}
pub use Rattle.netlist.proofs.TableLemmas.{or_place-none}
-- the first element that passes stands at the place
pub use Rattle.netlist.proofs.PlaceLemmas.{find-place}
-- gate k stands behind the inputs
pub use Rattle.netlist.proofs.GateLemmas.{position-definition}
-- what defines a gate, and that its fanins' nodes have lower positions
pub use Rattle.netlist.proofs.GateLemmas.{gate-definition}
-- an XOR has no position
pub use Rattle.netlist.proofs.NodesThere.{no-xor}
pub use Rattle.netlist.proofs.NetLemmas.{position_of-xor}
-- an input's position is the place after its index
pub use Rattle.netlist.proofs.NetLemmas.{position_of-input}
-- ---- what assignments of nodes make of the clauses that define a node

-- the negation of a literal holds where the literal doesn't
pub use Rattle.netlist.proofs.ClauseMeaning.{lit_holds-opposite, lit_holds-assigns}
-- values that don't differ are one
pub use Rattle.netlist.proofs.ClauseMeaning.{same-values}
-- the clauses that stay ask as much as all of them
pub use Rattle.netlist.proofs.ClauseMeaning.{meets_from_kept}
-- a gate's clauses say that it is the AND of its fanins, an XOR's that it is true exactly where its outputs differ
pub use Rattle.netlist.proofs.ClauseMeaning.{gate_from_meets, xor_from_meets}
-- ---- a pair whose circuits are matched by position or by name: what so stands is what the pair has, and nothing is against it
pub use Rattle.netlist.proofs.PairingLemmas.{matched-is, none-against}
-- both circuits have equal numbers of inputs and outputs, and the second one keeps its constraints
pub use Rattle.netlist.proofs.PairingLemmas.{matched-counts, matched-constraints}
-- ---- constraints: each constraint's literal, and that its node has a position
pub use Rattle.netlist.proofs.BoundLemmas.{bound-below, bound_of-lit, bound-there}
-- the nodes of all constraints have positions, and CNF variables
pub use Rattle.netlist.proofs.BoundLemmas.{bounds-there, bounds-variables}
-- an input is admitted exactly where the literals of all constraints are true
pub use Rattle.netlist.proofs.BoundLemmas.{admitted-bounds, bounds-admitted}
-- the units of literals ask that each of them is true
pub use Rattle.netlist.proofs.BoundLemmas.{units-hold, hold-units, over-units}
-- as many literals as constraints, how many clauses the miter has, and the number of a unit
pub use Rattle.netlist.proofs.StartLemmas.{length-bounds, length-miter, bound_number}
