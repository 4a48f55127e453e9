use Rattle.klsm_board.proofs.steps.look_at_front.Given as goal

abbrev pub ghosts-load_front : goal.ghosts-load_front
ghosts-load_front g a = record { sizes = a.table.now.key; thread = a.thread; fits = λ _. Unit {0}; least = a.least }
