use Rattle.board_lock.specs.Plays.{known_note}
use Rattle.board_lock.proofs.pass.Pass.refresh.Given as goal

abbrev pub ghosts-leave_known : goal.ghosts-leave_known
ghosts-leave_known g a = record { note = known_note a.place.now.me.0 a.known }
