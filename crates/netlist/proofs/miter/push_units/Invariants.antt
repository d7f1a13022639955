-- The units so far are put last by their numbers.
use Rattle.std.proofs.Common.{◌≡◌, ◌++◌}
use Rattle.netlist.proofs.MiterLemmas.{numbered_units}
use Rattle.netlist.proofs.miter.push_units.Given as goal

abbrev pub invariant-loop-k : goal.invariant-loop-k
invariant-loop-k l = l.clauses.items ≡ l.fn.clauses.items ++ numbered_units l.pair l.fn.side l.k
