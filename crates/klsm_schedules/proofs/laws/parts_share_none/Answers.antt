use Rattle.klsm_schedules.proofs.lemmas.theorems.LiveOnceLemmas.{live_items_differ, parts_share_none}
use Rattle.klsm_schedules.proofs.laws.parts_share_none.Goals as goal

pub returns-clause-differ : goal.returns-clause-differ
returns-clause-differ c = live_items_differ

pub returns-clause-apart : goal.returns-clause-apart
returns-clause-apart c = parts_share_none
