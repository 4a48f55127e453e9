use Rattle.klsm_schedules.proofs.lemmas.theorems.ReachedLemmas.{most_left_is_reached, most_skipped_is_reached, most_skipped_early_is_reached}
use Rattle.klsm_schedules.proofs.lemmas.theorems.RefillReachedLemmas.{most_left_is_reached_refilled, most_skipped_is_reached_refilled, most_skipped_early_is_reached_refilled}
use Rattle.klsm_schedules.proofs.laws.bounds_are_reached.Goals as goal

pub returns-clause-takes : goal.returns-clause-takes
returns-clause-takes c = most_skipped_is_reached

pub returns-clause-earlies : goal.returns-clause-earlies
returns-clause-earlies c = most_skipped_early_is_reached

pub returns-clause-nothing : goal.returns-clause-nothing
returns-clause-nothing c = most_left_is_reached

pub returns-clause-takes_refilled : goal.returns-clause-takes_refilled
returns-clause-takes_refilled c = most_skipped_is_reached_refilled

pub returns-clause-earlies_refilled : goal.returns-clause-earlies_refilled
returns-clause-earlies_refilled c = most_skipped_early_is_reached_refilled

pub returns-clause-nothing_refilled : goal.returns-clause-nothing_refilled
returns-clause-nothing_refilled c = most_left_is_reached_refilled
