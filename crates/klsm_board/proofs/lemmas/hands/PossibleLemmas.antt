-- What a member knows of the parts in its hand, as its list is that of a possible world.
use Rattle.std.proofs.Common.{◌≡◌, ◌≢◌, ℕ, ◌+◌, ◌<◌, List, length, ap, ◌∙◌, arith}
use Rattle.std.proofs.Math.Logic.{∥∥₁_map}
use Rattle.std.specs.List.{Contains}
use Rattle.atomic_table.specs.Table.{Me}
use Rattle.klsm_run.specs.declared.item.Item.{Item}
use Rattle.klsm_run.specs.Content.{ShareNone}
use Rattle.klsm_parts.specs.Events.{times, MayTake, MayTakeEarly, MayFindNothing, MayRefill}
use Rattle.klsm_schedules.specs.declared.step.Entry.{Entry}
use Rattle.klsm_schedules.specs.OwnSteps.{Hand, Holds, found_in, hand_of, inserted}
use Rattle.klsm_schedules.specs.LegalSteps.{BearsStamp}
use Rattle.klsm_schedules.specs.OwnListLaws.{IsPossible, SkipsFew, SkipsFewBy, KeepsOwnOrder, KeepsOwnOrderBy, LeavesFew}
use Rattle.klsm_schedules.proofs.lemmas.counts.EventCountLemmas.{times_contained, contained_if_counted}
use Rattle.klsm_schedules.proofs.lemmas.theorems.OwnListLemmas.{hands_are_apart, next_is_new_in_hand, lists_skip_few, lists_skip_few_early, lists_keep_order, lists_keep_order_early, lists_leave_few}
use Rattle.klsm_schedules.proofs.lemmas.theorems.RunLemmas.{schedules_keep_lawful}
use Rattle.klsm_board.specs.declared.sizes.Sizes.{Sizes}
use Rattle.klsm_board.specs.declared.rule.View.{View}
use Rattle.klsm_board.specs.Rule.{world_limits, IsReached}
use Rattle.klsm_board.specs.Steps.{mine, AreReached}
use Rattle.klsm_board.specs.Seats.{Has, own_in_hand, both_in_hand}
use Rattle.klsm_board.proofs.lemmas.hands.EventLemmas.{own_in_one, own_in_both, shared_in_both, not_shared}

-- a world to which a schedule leads is lawful
pub possible : (m : Sizes) (t : ℕ) (es : List Entry) → IsReached m t es → IsPossible (world_limits m) m.quota t es
possible m t es reached = record {
  world = reached.world;
  lawful = schedules_keep_lawful (world_limits m) reached.schedule reached.world reached.leads;
  within = reached.within;
  same = reached.list_is;
}

-- what is known of several lists is known of the first
pub alone_reached : (m : Sizes) (t : ℕ) (v : View) → AreReached m t v → IsReached m t (mine v)
alone_reached m t v reached = record {
  world = reached.world;
  schedule = reached.schedule;
  leads = reached.leads;
  within = reached.within;
  list_is = reached.list_is;
  thread = reached.thread;
}

pub each_reached : (m : Sizes) (t : ℕ) (v : View) → ∥ AreReached m t v ∥₁ → ∥ IsReached m t (mine v) ∥₁
each_reached m t v some = ∥∥₁_map some (λ r. alone_reached m t v r)

pub possible_of : (m : Sizes) (t : ℕ) (v : View) → AreReached m t v → IsPossible (world_limits m) m.quota t (mine v)
possible_of m t v reached = possible m t (mine v) (alone_reached m t v reached)

-- two parts in the hand that a list leaves share no item
pub apart_by_list : (m : Sizes) (t : ℕ) (hand : Hand) (v : View) (p q : ℕ) (c d : List Item) → AreReached m t v → hand_of t (mine v) ≡ hand → p ≢ q → Holds hand p c → Holds hand q d → ShareNone c d
apart_by_list m t hand v p q c d reached hand_is apart holds holds' =
    hands_are_apart (world_limits m) m.quota t (mine v) p q c d (possible_of m t v reached) reached.thread apart
    (ap (λ h. found_in h p) hand_is ∙ holds) (ap (λ h. found_in h q) hand_is ∙ holds')

-- nor does the own part with what may move to it from the shared one
pub arriving_apart : (m : Sizes) (t : ℕ) (v : View) (own shared moved : List Item) → AreReached m t v → hand_of t (mine v) ≡ both_in_hand t own shared → MayRefill m.k own shared moved → ShareNone own moved
arriving_apart m t v own shared moved reached hand_is may x in_own in_moved =
    let some : 0 < times x shared = omega (arith, times_contained x moved in_moved, may.within x) in
    apart_by_list m t (both_in_hand t own shared) v (t + 1) 0 own shared reached hand_is (not_shared t) (own_in_both t own shared) (shared_in_both t own shared) x in_own (contained_if_counted x shared some)

module _ {S : Type 0} (content : S → List Item) (suits : ℕ → ℕ → S → Type 0) (m : Sizes) (t : ℕ) where
  -- two parts in hand share no item
  pub apart_in_hand : (hand : Hand) (me : Me S View) (p q : ℕ) (c d : List Item) → Has content suits m t hand me → p ≢ q → Holds hand p c → Holds hand q d → ShareNone c d
  apart_in_hand hand me p q c d has = apart_by_list m t hand me.0 p q c d has.reached has.hand_is

  -- and the next item is in none of them
  pub new_in_hand : (hand : Hand) (me : Me S View) (p : ℕ) (c : List Item) (x : Item) → Has content suits m t hand me → BearsStamp t (length (inserted (mine me.0))) x → Holds hand p c → Contains c x → ⊥
  new_in_hand hand me p c x has bears holds =
      let reached = has.reached in
      next_is_new_in_hand (world_limits m) m.quota t (mine me.0) p c x (possible_of m t me.0 reached) reached.thread bears
      (ap (λ h. found_in h p) has.hand_is ∙ holds)

  -- a deletion from both parts in hand skips few items
  pub take_skips_few : (own shared : List Item) (me : Me S View) (x : Item) → Has content suits m t (both_in_hand t own shared) me → MayTake m.k t own shared x → SkipsFew (world_limits m) t (mine me.0) x
  take_skips_few own shared me x has may = let reached = has.reached in
      lists_skip_few (world_limits m) t (mine me.0) x reached.thread (record {
        own = own;
        other = shared;
        holds_own = ap (λ h. found_in h (t + 1)) has.hand_is ∙ own_in_both t own shared;
        holds_other = ap (λ h. found_in h 0) has.hand_is ∙ shared_in_both t own shared;
        fits = may;
      })

  -- and none of the thread's own in them
  pub take_keeps_order : (own shared : List Item) (me : Me S View) (x : Item) → Has content suits m t (both_in_hand t own shared) me → MayTake m.k t own shared x → KeepsOwnOrder (world_limits m) t (mine me.0) x
  take_keeps_order own shared me x has may = let reached = has.reached in
      lists_keep_order (world_limits m) t (mine me.0) x reached.thread (record {
        own = own;
        other = shared;
        holds_own = ap (λ h. found_in h (t + 1)) has.hand_is ∙ own_in_both t own shared;
        holds_other = ap (λ h. found_in h 0) has.hand_is ∙ shared_in_both t own shared;
        fits = may;
      })

  -- so does one by the front, in the worlds of that front, with the own part in hand
  pub early_skips_few : (own : List Item) (me : Me S View) (x : Item) (front : ℕ) → Has content suits m t (own_in_hand t own) me → MayTakeEarly own x front → SkipsFewBy front (world_limits m) t (mine me.0) x
  early_skips_few own me x front has may = let reached = has.reached in
      lists_skip_few_early (world_limits m) t (mine me.0) x front reached.thread (record {
        own = own;
        holds_own = ap (λ h. found_in h (t + 1)) has.hand_is ∙ own_in_one t own;
        fits = may;
      })

  pub early_keeps_order : (own : List Item) (me : Me S View) (x : Item) (front : ℕ) → Has content suits m t (own_in_hand t own) me → MayTakeEarly own x front → KeepsOwnOrderBy front (world_limits m) t (mine me.0) x
  early_keeps_order own me x front has may = let reached = has.reached in
      lists_keep_order_early (world_limits m) t (mine me.0) x front reached.thread (record {
        own = own;
        holds_own = ap (λ h. found_in h (t + 1)) has.hand_is ∙ own_in_one t own;
        fits = may;
      })

  -- and where both are empty, few items live
  pub nothing_leaves_few : (own shared : List Item) (me : Me S View) → Has content suits m t (both_in_hand t own shared) me → MayFindNothing own shared → LeavesFew (world_limits m) t (mine me.0)
  nothing_leaves_few own shared me has may = let reached = has.reached in
      lists_leave_few (world_limits m) t (mine me.0) reached.thread (record {
        own = own;
        other = shared;
        holds_own = ap (λ h. found_in h (t + 1)) has.hand_is ∙ own_in_both t own shared;
        holds_other = ap (λ h. found_in h 0) has.hand_is ∙ shared_in_both t own shared;
        fits = may;
      })
