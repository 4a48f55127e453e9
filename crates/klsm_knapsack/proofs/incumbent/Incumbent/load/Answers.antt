use Rattle.std.proofs.Common.{refl}
use Rattle.klsm_knapsack.proofs.incumbent.Incumbent.load.Goals as goal

pub load_about-requires-clause-problem : goal.load_about-requires-clause-problem
load_about-requires-clause-problem c = refl
