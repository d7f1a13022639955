-- The units so far are put last.
use Rattle.std.proofs.Common.{◌-◌, length, map, take}
use Rattle.lits.specs.declared.step.Ref.TheVariants.{Bound}
use Rattle.netlist.specs.Net.{bounds_on}
use Rattle.netlist.specs.Miter.{unit}
use Rattle.lemma_book.specs.Cone.{named_from}
use Rattle.flat_cones.specs.Numbered.{Adds}
use Rattle.flat_cones.proofs.clauses.Clauses.add_units.Given as goal

abbrev pub invariant-loop-lit : goal.invariant-loop-lit
invariant-loop-lit l =
    Adds l.net l.fn.self.base (named_from (Bound l.fn.side) 0 (take l.k (map unit (bounds_on l.net l.fn.side)))) l.spots l.self.base

abbrev pub decreases-loop-lit : goal.decreases-loop-lit
decreases-loop-lit l = length (bounds_on l.net l.fn.side) - l.k
