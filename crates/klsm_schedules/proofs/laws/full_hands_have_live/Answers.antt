use Rattle.klsm_schedules.proofs.lemmas.theorems.LiveLemmas.{full_hands_have_live}
use Rattle.klsm_schedules.proofs.laws.full_hands_have_live.Goals as goal

pub returns : goal.returns
returns c = full_hands_have_live
