use Rattle.klsm_schedules.proofs.lemmas.lawful.LawfulLemmas.{lawful_kept}
use Rattle.klsm_schedules.proofs.lemmas.theorems.RunLemmas.{schedules_keep_lawful}
use Rattle.klsm_schedules.proofs.laws.steps_keep_lawful.Goals as goal

pub returns-clause-steps : goal.returns-clause-steps
returns-clause-steps c = lawful_kept

pub returns-clause-schedules : goal.returns-clause-schedules
returns-clause-schedules c = schedules_keep_lawful
