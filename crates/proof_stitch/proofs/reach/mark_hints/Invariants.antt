use Rattle.std.proofs.Common.{take, map}
use Rattle.proof_stitch.specs.Steps.{id_of}
use Rattle.proof_stitch.specs.Table.{AreMarked, KeepsShape}
use Rattle.proof_stitch.proofs.reach.mark_hints.Given as goal

abbrev pub invariant-loop-place : goal.invariant-loop-place
invariant-loop-place l = record {
  shape : KeepsShape l.initial.marks l.marks;
  marked : AreMarked (map (id_of l.net l.shown l.first) (take l.place l.hints)) l.by l.initial.marks l.marks;
}
