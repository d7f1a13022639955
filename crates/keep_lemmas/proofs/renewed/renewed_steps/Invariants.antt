-- The steps so far have new numbers.
use Rattle.std.proofs.Common.{◌≡◌, map, take}
use Rattle.keep_lemmas.specs.Kept.{renewed_step}
use Rattle.keep_lemmas.specs.Keeping.{number_in}
use Rattle.keep_lemmas.proofs.renewed.renewed_steps.Given as goal

abbrev pub invariant-loop-step : goal.invariant-loop-step
invariant-loop-step l = l.renewed.items ≡ map (renewed_step (number_in l.numbers)) (take l.step-index l.steps)
