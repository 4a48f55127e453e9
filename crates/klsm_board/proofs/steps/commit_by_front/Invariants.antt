use Rattle.std.specs.Prelude.{◌≡◌}
use Rattle.klsm_schedules.proofs.lemmas.lists.ListLemmas.{no_item}
use Rattle.klsm_board.proofs.steps.commit_by_front.Given as goal

abbrev pub ghosts-store_front : goal.ghosts-store_front
ghosts-store_front g a = record { sizes = a.table.now.key; thread = a.thread; fits = λ e. e ≡ a.about.now; least = no_item }
