use Rattle.klsm_schedules.proofs.lemmas.theorems.LookLemmas.{looks_tell_fronts, lists_tell_fronts}
use Rattle.klsm_schedules.proofs.laws.looks_tell_fronts.Goals as goal

pub returns-clause-steps : goal.returns-clause-steps
returns-clause-steps c = looks_tell_fronts

pub returns-clause-lists : goal.returns-clause-lists
returns-clause-lists c = lists_tell_fronts
