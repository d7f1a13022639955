-- The names that were passed are in the index, and none of them is a double.
use Rattle.std.proofs.Common.{◌≡◌, None, take}
use Rattle.netlist.specs.ByName.{is_doubled, least}
use Rattle.netlist.specs.NameIndex.{IsIndex}
use Rattle.netlist.proofs.name_index.NameIndex.of.Given as goal

abbrev pub invariant-loop-k : goal.invariant-loop-k
invariant-loop-k l = IsIndex l.places (take l.k l.names) × (least (is_doubled l.names) l.k ≡ None)
