-- The truth values of the inputs so far.
use Rattle.check_session.specs.Pool.{HasBitsOf}
use Rattle.check_session.proofs.patterns.pattern_at.Given as goal

abbrev pub invariant-loop-input : goal.invariant-loop-input
invariant-loop-input l = HasBitsOf l.sigs l.place l.input l.values.items
