use Rattle.board_lock.specs.Plays.{offered_note}
use Rattle.board_lock.proofs.turn.leave_offered.Given as goal

abbrev pub ghosts-leave_told : goal.ghosts-leave_told
ghosts-leave_told g a = record { note = offered_note a.place.now.me.0 g.N.Asked.entry a._offered }
