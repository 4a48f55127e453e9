use Rattle.klsm_schedules.proofs.lemmas.lists.ListLemmas.{no_item}
use Rattle.klsm_board.proofs.steps.acquire_after_look.Given as goal

abbrev pub ghosts-load_lock : goal.ghosts-load_lock
ghosts-load_lock g a = record { sizes = a.table.now.key; thread = a.thread; fits = λ _. Unit {0}; least = no_item }
