use Rattle.klsm_lsm.proofs.CascadeLemmas.{add_puts, add_merges}
use Rattle.klsm_lsm.proofs.laws.adding_merges_equal_levels.Goals as goal

pub returns-clause-puts : goal.returns-clause-puts
returns-clause-puts c = add_puts

pub returns-clause-merges : goal.returns-clause-merges
returns-clause-merges c = add_merges
