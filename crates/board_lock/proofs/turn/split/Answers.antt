use Rattle.ticket_lock.specs.Views.{member_of}
use Rattle.ticket_lock.proofs.Facts.{times-length}
use Rattle.board_lock.proofs.Steps.{parts}
use Rattle.board_lock.proofs.turn.split.Goals as goal

pub split-requires-clause-parts : goal.split-requires-clause-parts
split-requires-clause-parts c =
    let v = c.args.place.now.me.0 in
    parts c.args.lock.now.about (member_of v) (times-length v.number v.numbers c.requires.idle.0.own)
