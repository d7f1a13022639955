use Rattle.std.proofs.Common.{◌≡◌, map, take}
use Rattle.netlist.specs.Miter.{numbered}
use Rattle.proof_stitch.proofs.addition.numbers.Given as goal

abbrev pub invariant-loop-lit : goal.invariant-loop-lit
invariant-loop-lit l = l.numbers.items ≡ map (numbered l.net) (take l.lit-index l.lits)
