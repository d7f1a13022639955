-- Those of the first gates that are marked.
use Rattle.std.proofs.Common.{◌≡◌, take}
use Rattle.std.specs.Prelude.{filter}
use Rattle.lits.specs.declared.node.Side.TheVariants.{A}
use Rattle.lits.specs.declared.node.Node.TheVariants.{Gate}
use Rattle.fraig_write.specs.Marks.{is_marked}
use Rattle.fraig_write.proofs.staying.marked_gates.Given as goal

abbrev pub invariant-loop-gate : goal.invariant-loop-gate
invariant-loop-gate l = l.marked.items ≡ filter (λ g. is_marked l.net l.marks (Gate A g.var)) (take l.gate-index l.gates)
