use Rattle.std.proofs.Common.{rules}
use Rattle.klsm_tool.proofs.knapsack.refuse.Goals as goal

pub returns : goal.returns
returns g c = search rules
