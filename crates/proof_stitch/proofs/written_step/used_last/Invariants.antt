use Rattle.std.proofs.Common.{◌≡◌, take}
use Rattle.std.specs.Prelude.{filter, ◌==◌}
use Rattle.proof_stitch.specs.Table.{number_at}
use Rattle.proof_stitch.proofs.written_step.used_last.Given as goal

abbrev pub invariant-loop-id : goal.invariant-loop-id
invariant-loop-id l = l.found.items ≡ filter (λ n. number_at l.marks n == l.by) (take l.id-index l.cited)
