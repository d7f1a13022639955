use Rattle.std.proofs.Common.{◌≡◌}
use Rattle.netlist.proofs.MiterLemmas.{numbered_xors}
use Rattle.netlist.proofs.miter.some_xor.Given as goal

abbrev pub invariant-loop-j : goal.invariant-loop-j
invariant-loop-j l = l.numbers.items ≡ numbered_xors l.pair l.j
