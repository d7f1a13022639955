-- Some of the pairs that were passed.
use Rattle.std.proofs.Common.{take}
use Rattle.sweep_workers.specs.Asked.{IsPart}
use Rattle.sweep_workers.proofs.rounds.marked.Given as goal

abbrev pub invariant-loop-k : goal.invariant-loop-k
invariant-loop-k l = IsPart l.now.items (take l.k l.due)
