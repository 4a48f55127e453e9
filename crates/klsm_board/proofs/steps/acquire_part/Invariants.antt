use Rattle.klsm_schedules.proofs.lemmas.lists.ListLemmas.{no_item}
use Rattle.klsm_board.proofs.steps.acquire_part.Given as goal

abbrev pub ghosts-acquire : goal.ghosts-acquire
ghosts-acquire g a = record { sizes = a.table.now.key; thread = a.thread; fits = λ _. Unit {0}; least = no_item }
