use Rattle.klsm_schedules.proofs.lemmas.theorems.SkipLemmas.{live_takes_skip_few, live_earlies_skip_few, live_nothing_leaves_few}
use Rattle.klsm_schedules.proofs.laws.takes_skip_few.Goals as goal

pub returns-clause-takes : goal.returns-clause-takes
returns-clause-takes c = live_takes_skip_few

pub returns-clause-earlies : goal.returns-clause-earlies
returns-clause-earlies c = live_earlies_skip_few

pub returns-clause-nothing : goal.returns-clause-nothing
returns-clause-nothing c = live_nothing_leaves_few
