use Rattle.board_lock.proofs.Ends.{opens}
use Rattle.board_lock.proofs.board.lock_about.Goals as goal

pub open-requires : goal.open-requires
open-requires c =
    opens c.args.about.now c.args.book c.of.result c.requires.opening c.of.ensures c.requires.legal
