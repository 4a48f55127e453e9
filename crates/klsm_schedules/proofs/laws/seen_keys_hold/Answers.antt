use Rattle.klsm_schedules.proofs.lemmas.theorems.SeenLemmas.{seen_keys_hold}
use Rattle.klsm_schedules.proofs.laws.seen_keys_hold.Goals as goal

pub returns : goal.returns
returns c = seen_keys_hold
