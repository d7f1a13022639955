-- The units so far.
use Rattle.std.proofs.Common.{◌≡◌, ◌++◌, ◌-◌, length, map, take}
use Rattle.lits.specs.declared.step.Ref.TheVariants.{Bound}
use Rattle.netlist.specs.Net.{bounds_on}
use Rattle.netlist.specs.Miter.{unit}
use Rattle.lemma_book.specs.Cone.{named_from}
use Rattle.lemma_book.proofs.output_cone.add_units.Given as goal

abbrev pub invariant-loop-lit : goal.invariant-loop-lit
invariant-loop-lit l = l.cone.items ≡ l.fn.cone.items ++ named_from (Bound l.fn.side) 0 (take l.k (map unit (bounds_on l.net l.fn.side)))

abbrev pub decreases-loop-lit : goal.decreases-loop-lit
decreases-loop-lit l = length (bounds_on l.net l.fn.side) - l.k
