use Rattle.std.proofs.Common.{rules}
use Rattle.klsm_tool.proofs.knapsack.solve_reordered.Goals as goal

pub returns-clause-best : goal.returns-clause-best
returns-clause-best g c = search rules

pub returns-clause-ran : goal.returns-clause-ran
returns-clause-ran g c = c.in_ok-best.ensures.ran
