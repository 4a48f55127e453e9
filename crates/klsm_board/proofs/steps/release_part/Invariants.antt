use Rattle.klsm_schedules.proofs.lemmas.lists.ListLemmas.{no_item}
use Rattle.klsm_board.proofs.steps.release_part.Given as goal

abbrev pub ghosts-release : goal.ghosts-release
ghosts-release g a = record { sizes = a.table.now.key; thread = a.thread; fits = λ _. Unit {0}; least = no_item }
