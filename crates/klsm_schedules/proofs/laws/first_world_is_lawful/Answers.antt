use Rattle.klsm_schedules.proofs.lemmas.lawful.FirstLemmas.{first_is_lawful}
use Rattle.klsm_schedules.proofs.laws.first_world_is_lawful.Goals as goal

-- src/laws.rt:5:1
pub returns : goal.returns
returns c = first_is_lawful
