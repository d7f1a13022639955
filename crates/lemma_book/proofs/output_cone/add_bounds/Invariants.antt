-- The literals so far.
use Rattle.std.proofs.Common.{◌≡◌, ◌++◌, ◌-◌, length, take}
use Rattle.netlist.specs.Net.{bounds_on}
use Rattle.lemma_book.proofs.output_cone.add_bounds.Given as goal

abbrev pub invariant-loop-lit : goal.invariant-loop-lit
invariant-loop-lit l = l.lits.items ≡ l.fn.lits.items ++ take l.k (bounds_on l.net l.fn.side)

abbrev pub decreases-loop-lit : goal.decreases-loop-lit
decreases-loop-lit l = length (bounds_on l.net l.fn.side) - l.k
