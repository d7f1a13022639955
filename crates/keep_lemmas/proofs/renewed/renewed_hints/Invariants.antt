-- The hints so far have new numbers.
use Rattle.std.proofs.Common.{◌≡◌, map, take}
use Rattle.keep_lemmas.specs.Kept.{renewed_hint}
use Rattle.keep_lemmas.specs.Keeping.{number_in}
use Rattle.keep_lemmas.proofs.renewed.renewed_hints.Given as goal

abbrev pub invariant-loop-place : goal.invariant-loop-place
invariant-loop-place l = l.renewed.items ≡ map (renewed_hint (number_in l.numbers)) (take l.place l.hints)
