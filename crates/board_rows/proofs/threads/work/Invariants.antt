use Rattle.std.proofs.Common.{◌≡◌}
use Rattle.board_lock.specs.Pass.{share_of}
use Rattle.board_rows.specs.Work.{MayWork}
use Rattle.board_rows.proofs.threads.work.Given as goal

abbrev pub invariant-loop : goal.invariant-loop
invariant-loop g l =
    record {
      table : l.pass.table ≡ l.fn.pass.table;
      share : share_of l.pass ≡ share_of l.fn.pass;
      may : MayWork l.net l.board l.pass;
    }
