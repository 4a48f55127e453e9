use Rattle.klsm_schedules.proofs.lemmas.lists.ListLemmas.{no_item}
use Rattle.std.specs.Prelude.{◌≡◌}
use Rattle.klsm_board.proofs.steps.commit_event.Given as goal

abbrev pub ghosts-commit : goal.ghosts-commit
ghosts-commit g a = record { sizes = a.table.now.key; thread = a.thread; fits = λ e. e ≡ a.about.now; least = no_item }
