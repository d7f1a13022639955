-- The steps so far are written.
use Rattle.std.proofs.Common.{◌≡◌, ◌++◌, take}
use Rattle.std.specs.List.{flat_map, AllByRecursion}
use Rattle.tokens.specs.Text.{joined, ended}
use Rattle.keep_lemmas.specs.Kept.{renewed_step}
use Rattle.book_file.specs.Loaded.{number_in}
use Rattle.book_file.specs.Writing.{step_words, FitsStep}
use Rattle.book_file.proofs.writing.push_steps.Given as goal

abbrev pub invariant-loop-step : goal.invariant-loop-step
invariant-loop-step l = record {
  written : l.text.items ≡ l.fn.text.items
      ++ flat_map (λ s. ended (joined (step_words (renewed_step (number_in l.numbers) s)))) (take l.step-index l.steps);
  fit : AllByRecursion FitsStep (take l.step-index l.steps);
}
