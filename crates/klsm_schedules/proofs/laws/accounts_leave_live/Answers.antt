use Rattle.klsm_schedules.proofs.lemmas.theorems.AccountLemmas.{left_is_live}
use Rattle.klsm_schedules.proofs.laws.accounts_leave_live.Goals as goal

pub returns : goal.returns
returns c = left_is_live
