use Rattle.klsm_schedules.proofs.lemmas.lists.ListLemmas.{no_item}
use Rattle.klsm_board.proofs.marking.see_work.Given as goal

abbrev pub ghosts-load_mark : goal.ghosts-load_mark
ghosts-load_mark g a = record { sizes = a.table.now.key; thread = a.thread; fits = λ _. Unit {0}; least = no_item }
