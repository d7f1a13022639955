use Rattle.board_lock.proofs.turn.come_in.Given as goal

abbrev pub ghosts-come_over : goal.ghosts-come_over
ghosts-come_over g a = record { net = a.lock.now.about.net }
