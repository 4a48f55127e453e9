use Rattle.klsm_lsm.proofs.AddLemmas.{lawful_add, sorted_add}
use Rattle.klsm_lsm.proofs.laws.adding_keeps_lawful.Goals as goal

pub returns : goal.returns
returns c blocks run lsm block none = (lawful_add blocks run lsm block none, sorted_add blocks run)
