use Rattle.std.proofs.Common.{◌≡◌, map, take}
use Rattle.proof_stitch.specs.Steps.{id_of}
use Rattle.proof_stitch.proofs.addition.ids.Given as goal

abbrev pub invariant-loop-place : goal.invariant-loop-place
invariant-loop-place l = l.ids.items ≡ map (id_of l.net l.shown l.first) (take l.place l.hints)
