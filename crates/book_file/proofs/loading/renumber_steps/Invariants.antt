-- The steps so far have their numbers.
use Rattle.std.proofs.Common.{◌≡◌, ◌++◌, map, take, drop}
use Rattle.keep_lemmas.specs.Kept.{renewed_step}
use Rattle.book_file.specs.Loaded.{number_in}
use Rattle.book_file.proofs.loading.renumber_steps.Given as goal

abbrev pub invariant-loop-step : goal.invariant-loop-step
invariant-loop-step l =
    l.step-items ≡ map (renewed_step (number_in l.numbers)) (take l.step-index l.initial.step-items) ++ drop l.step-index l.initial.step-items
