use Rattle.klsm_board.proofs.steps.turn_to.Given as goal

abbrev pub ghosts-load_turning : goal.ghosts-load_turning
ghosts-load_turning g a = record { sizes = a.table.now.key; thread = a.thread; fits = λ _. Unit {0}; least = record { key = 0; stamp = record { owner = 0; number = 0 }; load = 0 } }
