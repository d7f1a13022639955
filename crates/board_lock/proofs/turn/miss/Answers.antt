use Rattle.std.proofs.Common.{ap, ◌∙◌}
use Rattle.ticket_lock.specs.Views.{member_of}
use Rattle.board_lock.specs.Story.{story_missed}
use Rattle.board_lock.proofs.Turns.{missed}
use Rattle.board_lock.proofs.turn.miss.Goals as goal

pub leave-requires-clause-ends : goal.leave-requires-clause-ends
leave-requires-clause-ends c =
    let v = c.args.place.now.me.0 in
    missed c.args.lock.now.about (member_of v) v.taken c.miss.new.self (c.miss.ensures ∙ ap story_missed c.requires.missed.0)
