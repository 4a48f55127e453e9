use Rattle.std.proofs.Common.{length, ◌-◌}
use Rattle.klsm_knapsack.proofs.incumbent.Incumbent.+search_alone.Given as goal

abbrev pub decreases-search_alone : goal.decreases-search_alone
decreases-search_alone g l = length l.instance.now.things - l.node.level
