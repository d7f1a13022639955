-- The rows of the gates that were passed are known, and those to come are ANDs.
use Rattle.word_sim.proofs.GateLemmas.{IsFilling}
use Rattle.word_sim.proofs.gates.GateList.fill.Given as goal

abbrev pub invariant-loop-gate : goal.invariant-loop-gate
invariant-loop-gate l = IsFilling l.words l.fn.rows l.gate-items l.gate-index l.rows
