-- The steps stay.
use Rattle.std.proofs.Common.{◌≡◌}
use Rattle.lemma_book.proofs.packing.pack_steps.Given as goal

abbrev pub invariant-loop-step : goal.invariant-loop-step
invariant-loop-step l = l.step-items ≡ l.initial.step-items
