use Rattle.std.proofs.Common.{rules}
use Rattle.klsm_knapsack.proofs.incumbent.Incumbent.new.Goals as goal

pub of_words-requires : goal.of_words-requires
of_words-requires c = search rules
