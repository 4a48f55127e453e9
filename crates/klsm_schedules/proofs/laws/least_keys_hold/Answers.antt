use Rattle.klsm_schedules.proofs.lemmas.theorems.LiveLemmas.{later_items_lived, least_keys_hold}
use Rattle.klsm_schedules.proofs.laws.least_keys_hold.Goals as goal

pub returns-clause-items : goal.returns-clause-items
returns-clause-items c = later_items_lived

pub returns-clause-keys : goal.returns-clause-keys
returns-clause-keys c = least_keys_hold
