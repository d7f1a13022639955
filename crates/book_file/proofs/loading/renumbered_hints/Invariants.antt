-- The hints so far have their numbers.
use Rattle.std.proofs.Common.{◌≡◌, map, take}
use Rattle.keep_lemmas.specs.Kept.{renewed_hint}
use Rattle.book_file.specs.Loaded.{number_in}
use Rattle.book_file.proofs.loading.renumbered_hints.Given as goal

abbrev pub invariant-loop-place : goal.invariant-loop-place
invariant-loop-place l = l.renumbered.items ≡ map (renewed_hint (number_in l.numbers)) (take l.place l.hints)
