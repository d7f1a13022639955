use Rattle.board_lock.proofs.pass.Pass.offer.Given as goal

abbrev pub ghosts-offer_by : goal.ghosts-offer_by
ghosts-offer_by g a = record { entry = a.entry }
