use Rattle.board_lock.proofs.pass.Pass.note_settled.Given as goal

abbrev pub ghosts-note_settled_by : goal.ghosts-note_settled_by
ghosts-note_settled_by g a = record { entry = a.entry.now }
