use Rattle.klsm_schedules.proofs.lemmas.theorems.RunLemmas.{schedules_are_runs}
use Rattle.klsm_schedules.proofs.laws.schedules_are_runs.Goals as goal

pub returns : goal.returns
returns c = schedules_are_runs
