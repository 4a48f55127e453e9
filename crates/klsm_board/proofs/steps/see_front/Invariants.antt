use Rattle.klsm_board.proofs.steps.see_front.Given as goal

abbrev pub ghosts-load_front_alone : goal.ghosts-load_front_alone
ghosts-load_front_alone g a = record { sizes = a.table.now.key; thread = a.thread; fits = λ _. Unit {0}; least = record { key = 0; stamp = record { owner = 0; number = 0 }; load = 0 } }
