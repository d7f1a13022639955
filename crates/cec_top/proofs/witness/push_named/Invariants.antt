-- The lines that are left make the whole.
use Rattle.cec_top.proofs.NamedLemmas.{Goes}
use Rattle.cec_top.proofs.witness.push_named.Given as goal

abbrev pub invariant-loop-k : goal.invariant-loop-k
invariant-loop-k l = Goes l.circuit.names.inputs l.input l.fn.text.items l.k l.text.items
