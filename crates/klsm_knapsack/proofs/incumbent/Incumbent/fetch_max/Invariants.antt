use Rattle.klsm_knapsack.proofs.incumbent.Incumbent.fetch_max.Given as goal

abbrev pub ghosts-fetch_max_about : goal.ghosts-fetch_max_about
ghosts-fetch_max_about a = record { problem = a.incumbent.now.table.shared.key }
