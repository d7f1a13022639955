-- The gates so far are merged.
use Rattle.fraig_write.specs.Mirroring.{IsUpToGate}
use Rattle.fraig_write.proofs.mirrored.merge_gates.Given as goal

abbrev pub invariant-loop-k : goal.invariant-loop-k
invariant-loop-k l = IsUpToGate l.net l.fn.book l.staying l.k l.book
