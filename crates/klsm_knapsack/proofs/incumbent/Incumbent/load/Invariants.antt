use Rattle.klsm_knapsack.proofs.incumbent.Incumbent.load.Given as goal

abbrev pub ghosts-load_about : goal.ghosts-load_about
ghosts-load_about a = record { problem = a.incumbent.now.table.shared.key }
