use Rattle.netlist.proofs.MiterLemmas.{AreNumbered}
use Rattle.netlist.proofs.miter.numbered.Given as goal

abbrev pub invariant-loop-i : goal.invariant-loop-i
invariant-loop-i l = AreNumbered l.pair l.lits l.numbers l.i
