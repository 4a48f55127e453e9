use Rattle.klsm_schedules.proofs.lemmas.theorems.OwnEventLemmas.{lists_have_events}
use Rattle.klsm_schedules.proofs.laws.lists_have_events.Goals as goal

pub returns : goal.returns
returns c = lists_have_events
