use Rattle.klsm_schedules.proofs.lemmas.theorems.OwnListLemmas.{hands_are_apart, next_is_new_in_hand, own_deletions_are_few, lists_skip_few, lists_skip_few_early, lists_keep_order, lists_keep_order_early, lists_leave_few, refilled_may_follow}
use Rattle.klsm_schedules.proofs.laws.own_lists_tell.Goals as goal

pub returns-clause-takes : goal.returns-clause-takes
returns-clause-takes c = lists_skip_few

pub returns-clause-earlies : goal.returns-clause-earlies
returns-clause-earlies c = lists_skip_few_early

pub returns-clause-nothing : goal.returns-clause-nothing
returns-clause-nothing c = lists_leave_few

pub returns-clause-takes_order : goal.returns-clause-takes_order
returns-clause-takes_order c = lists_keep_order

pub returns-clause-earlies_order : goal.returns-clause-earlies_order
returns-clause-earlies_order c = lists_keep_order_early

pub returns-clause-apart : goal.returns-clause-apart
returns-clause-apart c = hands_are_apart

pub returns-clause-new : goal.returns-clause-new
returns-clause-new c = next_is_new_in_hand

pub returns-clause-deletions : goal.returns-clause-deletions
returns-clause-deletions c = own_deletions_are_few

pub returns-clause-refilled : goal.returns-clause-refilled
returns-clause-refilled c = refilled_may_follow
