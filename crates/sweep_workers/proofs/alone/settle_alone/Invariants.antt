-- The tasks that were passed are answered.
use Rattle.std.proofs.Common.{take}
use Rattle.sweep_workers.specs.Asked.{questions}
use Rattle.sweep_workers.specs.Answered.{AreAnswered}
use Rattle.sweep_workers.proofs.alone.settle_alone.Given as goal

abbrev pub invariant-loop-place : goal.invariant-loop-place
invariant-loop-place g l = AreAnswered l.net (questions (take l.place l.tasks)) l.fn.book l.book
