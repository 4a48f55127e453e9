use Rattle.klsm_schedules.proofs.lemmas.theorems.AccountLemmas.{accounts_add_up, deletions_are_few}
use Rattle.klsm_schedules.proofs.laws.accounts_add_up.Goals as goal

pub returns-clause-sum : goal.returns-clause-sum
returns-clause-sum c = accounts_add_up

pub returns-clause-deletions : goal.returns-clause-deletions
returns-clause-deletions c = deletions_are_few
