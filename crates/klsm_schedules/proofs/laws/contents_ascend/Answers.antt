use Rattle.klsm_schedules.proofs.lemmas.theorems.OrderLemmas.{contents_ascend, first_are_least, found_ascends, hands_ascend, steps_keep_order}
use Rattle.klsm_schedules.proofs.laws.contents_ascend.Goals as goal

pub returns-clause-steps : goal.returns-clause-steps
returns-clause-steps c = steps_keep_order

pub returns-clause-contents : goal.returns-clause-contents
returns-clause-contents c = contents_ascend

pub returns-clause-hands : goal.returns-clause-hands
returns-clause-hands c = hands_ascend

pub returns-clause-found : goal.returns-clause-found
returns-clause-found c = found_ascends

pub returns-clause-first : goal.returns-clause-first
returns-clause-first c = first_are_least
