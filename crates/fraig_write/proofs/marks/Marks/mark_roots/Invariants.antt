-- The roots of the first literals are marked.
use Rattle.std.proofs.Common.{map, take}
use Rattle.lits.specs.declared.node.Side.TheVariants.{A}
use Rattle.netlist.specs.Net.{lit_named}
use Rattle.fraig_write.specs.Marks.{AreMarked}
use Rattle.fraig_write.specs.Reduced.{root_nodes}
use Rattle.fraig_write.proofs.marks.Marks.mark_roots.Given as goal

abbrev pub invariant-loop-literal : goal.invariant-loop-literal
invariant-loop-literal l =
    AreMarked l.net (root_nodes l.book.entries (map (lit_named A l.net.a) (take l.literal-index l.literals))) l.initial.self l.self
