-- The clauses so far are put last by their numbers.
use Rattle.std.proofs.Common.{◌≡◌, ◌++◌}
use Rattle.netlist.proofs.MiterLemmas.{numbered_axioms}
use Rattle.netlist.proofs.miter.push_axioms.Given as goal

abbrev pub invariant-loop-axiom : goal.invariant-loop-axiom
invariant-loop-axiom l = l.clauses.items ≡ l.fn.clauses.items ++ numbered_axioms l.pair l.fn.node l.axiom-index
