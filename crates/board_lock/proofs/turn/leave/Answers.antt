use Rattle.board_lock.proofs.Turns.{noted}
use Rattle.board_lock.proofs.turn.leave.Goals as goal

pub leave-requires-clause-ends : goal.leave-requires-clause-ends
leave-requires-clause-ends g c =
    noted c.args.lock.now.about c.args.place.now.me.0 g.N.Noting.note c.args.history c.requires.inside.0 c.requires.tells
