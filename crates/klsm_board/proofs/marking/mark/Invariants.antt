use Rattle.klsm_schedules.proofs.lemmas.lists.ListLemmas.{no_item}
use Rattle.klsm_board.proofs.marking.mark.Given as goal

abbrev pub ghosts-store_mark : goal.ghosts-store_mark
ghosts-store_mark g a = record { sizes = a.table.now.key; thread = a.thread; fits = λ _. Unit {0}; least = no_item }
