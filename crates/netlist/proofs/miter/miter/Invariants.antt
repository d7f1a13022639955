use Rattle.std.proofs.Common.{◌≡◌}
use Rattle.netlist.specs.Numbered.{numbered_before}
use Rattle.netlist.proofs.miter.miter.Given as goal

abbrev pub invariant-loop-place : goal.invariant-loop-place
invariant-loop-place l = l.clauses.items ≡ numbered_before l.pair l.place
