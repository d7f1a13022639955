-- The inputs so far are patterns for the pair.
use Rattle.sweep_workers.specs.Swept.{IsPoolFor}
use Rattle.check_session.proofs.rare.reach.Given as goal

abbrev pub invariant-loop-gate : goal.invariant-loop-gate
invariant-loop-gate l = IsPoolFor l.net l.inputs
