use Rattle.std.proofs.Common.{take}
use Rattle.proof_stitch.specs.Table.{AreMarked, KeepsShape, always}
use Rattle.proof_stitch.proofs.reach.ask.Given as goal

abbrev pub invariant-loop-id : goal.invariant-loop-id
invariant-loop-id l = record {
  shape : KeepsShape l.initial.marks l.marks;
  marked : AreMarked (take l.id-index l.ids) always l.initial.marks l.marks;
}
