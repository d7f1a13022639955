-- The nodes are those that the edits so far touch.
use Rattle.std.proofs.Common.{◌≡◌, take}
use Rattle.std.specs.HashSet.{contains}
use Rattle.lits.specs.Same.{same_node}
use Rattle.lits.specs.declared.node.Node.{Node}
use Rattle.netlist_edits.specs.Edited.{touched_by}
use Rattle.keep_lemmas.proofs.touched.Touched.by.Given as goal

abbrev pub invariant-loop-edit : goal.invariant-loop-edit
invariant-loop-edit l = (n : Node) → contains same_node l.nodes n ≡ touched_by (take l.edit-index l.edits) n
