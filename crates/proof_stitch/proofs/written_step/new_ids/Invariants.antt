use Rattle.std.proofs.Common.{◌≡◌, map, take}
use Rattle.proof_stitch.specs.Table.{named_in}
use Rattle.proof_stitch.proofs.written_step.new_ids.Given as goal

abbrev pub invariant-loop-id : goal.invariant-loop-id
invariant-loop-id l = l.new_ids.items ≡ map (named_in l.names) (take l.id-index l.ids)
