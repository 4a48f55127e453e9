use Rattle.klsm_knapsack.proofs.CoverageLemmas.{nothing_is_missed}
use Rattle.klsm_knapsack.proofs.laws.nothing_is_missed.Goals as goal

pub returns : goal.returns
returns c = nothing_is_missed
