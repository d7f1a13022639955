use Rattle.ticket_lock.specs.Views.{member_of}
use Rattle.board_lock.proofs.Turns.{learns}
use Rattle.board_lock.proofs.turn.come_over.Goals as goal

pub come_in-requires-clause-learns : goal.come_in-requires-clause-learns
come_in-requires-clause-learns g c =
    learns c.args.lock.now.about g.N.Over.net (member_of c.args.place.now.me.0) c.requires.net c.requires.idle.0.own
