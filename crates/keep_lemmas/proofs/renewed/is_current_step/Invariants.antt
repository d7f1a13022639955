-- The hints so far are as they are by their new numbers.
use Rattle.std.proofs.Common.{◌≡◌, true, take}
use Rattle.std.specs.List.{list_all}
use Rattle.keep_lemmas.specs.Keeping.{is_current_hint}
use Rattle.keep_lemmas.proofs.renewed.is_current_step.Given as goal

abbrev pub invariant-loop-place : goal.invariant-loop-place
invariant-loop-place l = list_all (is_current_hint l.numbers) (take l.place l.step.hints) ≡ true
