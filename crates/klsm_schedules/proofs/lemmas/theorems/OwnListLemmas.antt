-- What a thread can know from its own list alone.
use Rattle.std.proofs.Common.{ℕ, ◌*◌, ◌≤◌, length, sym, ap, subst, arith}
use Rattle.std.specs.List.{flat_map}
use Rattle.klsm_parts.proofs.RefilledLemmas.{refilled_go_early}
use Rattle.klsm_schedules.specs.declared.step.Event.TheVariants.{Take, Early, Nothing}
use Rattle.klsm_schedules.specs.OwnSteps.{Holds, hand_of, inserted, deleted}
use Rattle.klsm_schedules.specs.LegalSteps.{BearsStamp, MayCommit}
use Rattle.klsm_schedules.specs.OwnListLaws.{HandsAreApart, NextIsNewInHand, OwnDeletionsAreFew, ListsSkipFew, ListsSkipFewEarly, ListsKeepOwnOrder, ListsKeepOwnOrderEarly, ListsLeaveFew, RefilledMayFollowEarly}
use Rattle.klsm_schedules.proofs.lemmas.theorems.AccountLemmas.{one_of_all, deletions_are_few}
use Rattle.klsm_schedules.proofs.lemmas.theorems.LiveOnceLemmas.{hands_share_none, next_is_new_to_hand}
use Rattle.klsm_schedules.proofs.lemmas.theorems.SkipLemmas.{live_takes_skip_few, live_earlies_skip_few, live_takes_keep_order, live_earlies_keep_order, live_nothing_leaves_few}

-- a deletion or an answer "nothing" passes over few items of each world that has the list
pub lists_skip_few : ListsSkipFew
lists_skip_few limits t own x inside may w lawful same =
    live_takes_skip_few limits w t x lawful
    (record { thread = inside; commit = subst (λ o. MayCommit limits.k t (hand_of t o) (length (inserted o)) (Take x)) (sym same) may; front = tt })

pub lists_skip_few_early : ListsSkipFewEarly
lists_skip_few_early limits t own x front inside may w lawful same by =
    live_earlies_skip_few limits w t x front lawful
    (record { thread = inside; commit = subst (λ o. MayCommit limits.k t (hand_of t o) (length (inserted o)) (Early x front)) (sym same) may; front = sym by })

pub lists_keep_order : ListsKeepOwnOrder
lists_keep_order limits t own x inside may w lawful same =
    live_takes_keep_order limits w t x lawful
    (record { thread = inside; commit = subst (λ o. MayCommit limits.k t (hand_of t o) (length (inserted o)) (Take x)) (sym same) may; front = tt })

pub lists_keep_order_early : ListsKeepOwnOrderEarly
lists_keep_order_early limits t own x front inside may w lawful same by =
    live_earlies_keep_order limits w t x front lawful
    (record { thread = inside; commit = subst (λ o. MayCommit limits.k t (hand_of t o) (length (inserted o)) (Early x front)) (sym same) may; front = sym by })

pub lists_leave_few : ListsLeaveFew
lists_leave_few limits t own inside may w lawful same =
    live_nothing_leaves_few limits w t lawful
    (record { thread = inside; commit = subst (λ o. MayCommit limits.k t (hand_of t o) (length (inserted o)) Nothing) (sym same) may; front = tt })

-- what a refill moved may be followed by its deletion by the front
pub refilled_may_follow : RefilledMayFollowEarly
refilled_may_follow k t most own part shared later x y up moved fits other holds within first = record {
  own = later;
  holds_own = holds;
  fits = refilled_go_early most k part shared later x y up moved fits other within first;
}

-- of what some world has, the parts in the thread's hand share no item, and its next item is in none
pub hands_are_apart : HandsAreApart
hands_are_apart limits quota t own p q c d possible inside apart holds holds' =
    let same = possible.same in
    hands_share_none limits possible.world t p q c d possible.lawful inside apart
    (subst (λ o. Holds (hand_of t o) p c) (sym same) holds) (subst (λ o. Holds (hand_of t o) q d) (sym same) holds')

pub next_is_new_in_hand : NextIsNewInHand
next_is_new_in_hand limits quota t own p c x possible inside bears holds =
    let same = possible.same in
    next_is_new_to_hand limits possible.world t p c x possible.lawful inside
    (subst (λ o. BearsStamp t (length (inserted o)) x) (sym same) bears) (subst (λ o. Holds (hand_of t o) p c) (sym same) holds)

-- and it deleted no more than all threads may insert
pub own_deletions_are_few : OwnDeletionsAreFew
own_deletions_are_few limits quota t own possible inside =
    let w = possible.world in
    let same = ap (λ o. length (deleted o)) possible.same in
    let one = one_of_all deleted w.lists t (omega (arith, inside, possible.lawful.agreed.lists_are)) in
    let most : ℕ = limits.threads * quota in
    let all : length (flat_map deleted w.lists) ≤ most = deletions_are_few limits quota w possible.lawful possible.within in
    let few : length (deleted own) ≤ most = omega (arith, all, one, same) in
    few
