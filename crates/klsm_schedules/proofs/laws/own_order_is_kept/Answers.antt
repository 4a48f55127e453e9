use Rattle.klsm_schedules.proofs.lemmas.theorems.SkipLemmas.{live_takes_keep_order, live_earlies_keep_order}
use Rattle.klsm_schedules.proofs.laws.own_order_is_kept.Goals as goal

pub returns-clause-takes : goal.returns-clause-takes
returns-clause-takes c = live_takes_keep_order

pub returns-clause-earlies : goal.returns-clause-earlies
returns-clause-earlies c = live_earlies_keep_order
