use Rattle.std.proofs.Common.{◌≡◌}
use Rattle.board_lock.specs.Pass.{share_of}
use Rattle.sweep_workers.specs.Asked.{questions}
use Rattle.sweep_workers.specs.Working.{Works}
use Rattle.sweep_workers.proofs.work.work.Given as goal

abbrev pub invariant-loop : goal.invariant-loop
invariant-loop g l = record {
  works : Works l.round.board (questions l.round.tasks.items) l.pass;
  share : share_of l.pass ≡ share_of l.fn.pass;
}
