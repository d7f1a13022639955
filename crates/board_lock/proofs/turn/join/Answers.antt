use Rattle.ticket_lock.specs.Views.{member_of}
use Rattle.board_lock.proofs.Steps.{merges}
use Rattle.board_lock.proofs.turn.join.Goals as goal

pub join-requires-clause-merges : goal.join-requires-clause-merges
join-requires-clause-merges c =
    merges c.args.lock.now.about (member_of c.args.place.now.me.0) (member_of c.args.other.me.0) c.requires.idle.0.own
    c.requires.other_idle.0.own
