use Rattle.ticket_lock.proofs.lock.TicketLock.split.Given as goal

abbrev pub ghosts-cut_by : goal.ghosts-cut_by
ghosts-cut_by g a = record { amount = a.turns }
