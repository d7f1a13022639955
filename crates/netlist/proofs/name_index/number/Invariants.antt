-- The number of the bytes that were passed.
use Rattle.std.proofs.Common.{◌≡◌, take}
use Rattle.netlist.specs.NameIndex.{number}
use Rattle.netlist.proofs.name_index.number.Given as goal

abbrev pub invariant-loop-k : goal.invariant-loop-k
invariant-loop-k l = l.number ≡ number (take l.k l.name)
