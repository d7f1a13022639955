-- The names of the clauses at the places so far.
use Rattle.std.proofs.Common.{◌≡◌, map, take}
use Rattle.strash_pass.specs.Shapes.{name_at}
use Rattle.strash_pass.proofs.hints.names_at.Given as goal

abbrev pub invariant-loop-place : goal.invariant-loop-place
invariant-loop-place l = l.names.items ≡ map (name_at l.coded) (take l.place-index l.places)
