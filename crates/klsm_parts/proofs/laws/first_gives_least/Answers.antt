use Rattle.klsm_parts.proofs.QueueLemmas.{least_of_first}
use Rattle.klsm_parts.proofs.laws.first_gives_least.Goals as goal

pub returns : goal.returns
returns c own shared candidate first = least_of_first own shared candidate first
