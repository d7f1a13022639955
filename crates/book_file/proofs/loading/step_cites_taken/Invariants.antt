-- The entries that the hints so far cite were taken.
use Rattle.std.proofs.Common.{◌≡◌, true, take}
use Rattle.std.specs.List.{list_all}
use Rattle.book_file.specs.Loaded.{hint_among, is_taken}
use Rattle.book_file.proofs.loading.step_cites_taken.Given as goal

abbrev pub invariant-loop-place : goal.invariant-loop-place
invariant-loop-place l = list_all (hint_among (is_taken l.numbers)) (take l.place l.step.hints) ≡ true
