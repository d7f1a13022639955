use Rattle.ticket_lock.specs.Views.{member_of}
use Rattle.board_lock.proofs.Steps.{draws}
use Rattle.board_lock.proofs.turn.draw.Goals as goal

pub draw-requires-clause-draws : goal.draw-requires-clause-draws
draw-requires-clause-draws c = draws c.args.lock.now.about (member_of c.args.place.now.me.0)
