use Rattle.klsm_schedules.proofs.lemmas.theorems.WorkLemmas.{children_stay_above, least_open_stays_above, work_holds, work_holds_of_deleted}
use Rattle.klsm_schedules.proofs.laws.work_holds.Goals as goal

pub returns-clause-live : goal.returns-clause-live
returns-clause-live c = work_holds

pub returns-clause-deleted : goal.returns-clause-deleted
returns-clause-deleted c = work_holds_of_deleted

pub returns-clause-least : goal.returns-clause-least
returns-clause-least c = least_open_stays_above

pub returns-clause-children : goal.returns-clause-children
returns-clause-children c = children_stay_above
