-- What a thread can know from its own list alone, of every world in which it has this list.
use Rattle.std.specs.Prelude.{ℕ, ◌≡◌, ◌≢◌, ◌*◌, ◌-◌, ◌<◌, ◌≤◌, ◌^◌, List, ◌++◌, length}
use Rattle.std.specs.List.{Contains}
use Rattle.klsm_run.specs.declared.item.Item.{Item}
use Rattle.klsm_run.specs.Content.{skipped, IsAscending, ShareNone}
use Rattle.klsm_parts.specs.Least.{IsLeast}
use Rattle.klsm_parts.specs.Events.{SkipsNoneOf, front_of, shared_after_refill}
use Rattle.klsm_parts.specs.Refilling.{refill_of}
use Rattle.klsm_schedules.specs.declared.step.Event.TheVariants.{Take, Early, Nothing}
use Rattle.klsm_schedules.specs.declared.step.Entry.{Entry}
use Rattle.klsm_schedules.specs.declared.step.Entry.TheVariants.{Committed}
use Rattle.klsm_schedules.specs.OwnSteps.{Holds, shared_part, own_part, hand_of, inserted, deleted}
use Rattle.klsm_schedules.specs.LegalSteps.{BearsStamp, MayFollow}
use Rattle.klsm_schedules.specs.Worlds.{Limits, World, steps_of, content_of, live}
use Rattle.klsm_schedules.specs.LawfulWorlds.{IsLawful}
use Rattle.klsm_schedules.specs.Laws.{IsWithinQuota}

-- in every lawful world in which this is thread t's list, at most T·k live items are smaller than x
abbrev pub SkipsFew : Limits → ℕ → List Entry → Item → Type 0
SkipsFew limits t own x = (w : World) → IsLawful limits w → steps_of w t ≡ own
    → skipped (live w) x ≤ limits.threads * limits.k

-- in every such world whose front word is this, at most (T-1)·k live items are smaller than x
abbrev pub SkipsFewBy : ℕ → Limits → ℕ → List Entry → Item → Type 0
SkipsFewBy front limits t own x = (w : World) → IsLawful limits w → steps_of w t ≡ own
    → w.front ≡ front → skipped (live w) x ≤ (limits.threads - 1) * limits.k

-- in every such world x skips no item that thread t inserted, of those in its own part and in the
-- shared one
abbrev pub KeepsOwnOrder : Limits → ℕ → List Entry → Item → Type 0
KeepsOwnOrder limits t own x = (w : World) → IsLawful limits w → steps_of w t ≡ own
    → SkipsNoneOf t (content_of w (own_part t) ++ content_of w shared_part) x

-- and in every such world whose front word is this
abbrev pub KeepsOwnOrderBy : ℕ → Limits → ℕ → List Entry → Item → Type 0
KeepsOwnOrderBy front limits t own x = (w : World) → IsLawful limits w → steps_of w t ≡ own
    → w.front ≡ front → SkipsNoneOf t (content_of w (own_part t) ++ content_of w shared_part) x

-- in every such world at most (T-1)·k items live
abbrev pub LeavesFew : Limits → ℕ → List Entry → Type 0
LeavesFew limits t own = (w : World) → IsLawful limits w → steps_of w t ≡ own
    → length (live w) ≤ (limits.threads - 1) * limits.k

-- where a deletion may follow a list, it skips few
abbrev pub ListsSkipFew : Type 0
ListsSkipFew = (limits : Limits) (t : ℕ) (own : List Entry) (x : Item) → t < limits.threads
    → MayFollow limits.k t own (Committed (Take x))
    → SkipsFew limits t own x

-- so does one by a front, in the worlds of that front
abbrev pub ListsSkipFewEarly : Type 0
ListsSkipFewEarly = (limits : Limits) (t : ℕ) (own : List Entry) (x : Item) (front : ℕ)
    → t < limits.threads → MayFollow limits.k t own (Committed (Early x front))
    → SkipsFewBy front limits t own x

-- and both keep own order
abbrev pub ListsKeepOwnOrder : Type 0
ListsKeepOwnOrder = (limits : Limits) (t : ℕ) (own : List Entry) (x : Item) → t < limits.threads
    → MayFollow limits.k t own (Committed (Take x))
    → KeepsOwnOrder limits t own x

abbrev pub ListsKeepOwnOrderEarly : Type 0
ListsKeepOwnOrderEarly = (limits : Limits) (t : ℕ) (own : List Entry) (x : Item) (front : ℕ)
    → t < limits.threads → MayFollow limits.k t own (Committed (Early x front))
    → KeepsOwnOrderBy front limits t own x

-- where an answer "nothing" may follow a list, few items live
abbrev pub ListsLeaveFew : Type 0
ListsLeaveFew = (limits : Limits) (t : ℕ) (own : List Entry) → t < limits.threads
    → MayFollow limits.k t own (Committed Nothing)
    → LeavesFew limits t own

-- where the least shared items were moved by a Refill, each of them may be deleted by the front that it left, all but those
-- of the front's own key: as long as thread t has such an item in its own part, the least one there may be
abbrev pub RefilledMayFollowEarly : Type 0
RefilledMayFollowEarly = (k t most : ℕ) (own : List Entry) (part shared later : List Item) (x y : Item)
    → IsAscending shared → Contains (refill_of most k part shared) x → x.key < 2 ^ 64
    → x.key ≢ front_of (shared_after_refill shared (refill_of most k part shared))
    → Holds (hand_of t own) (own_part t) later → Contains later x → IsLeast y later
    → MayFollow k t own (Committed (Early y (front_of (shared_after_refill shared (refill_of most k part shared)))))

-- this is thread t's list in some lawful world in which no thread made more insertions than the
-- quota; each world to which a schedule leads is lawful
pub record IsPossible (limits : Limits) (quota t : ℕ) (own : List Entry) : Type 0 where
  pub world : World
  pub lawful : IsLawful limits world
  pub within : IsWithinQuota limits quota world
  pub same : steps_of world t ≡ own

-- then the parts in the thread's hand share no item
abbrev pub HandsAreApart : Type 0
HandsAreApart = (limits : Limits) (quota t : ℕ) (own : List Entry) (p q : ℕ) (c d : List Item)
    → IsPossible limits quota t own → t < limits.threads → p ≢ q
    → Holds (hand_of t own) p c → Holds (hand_of t own) q d → ShareNone c d

-- none of them has the item of the thread's next insertion
abbrev pub NextIsNewInHand : Type 0
NextIsNewInHand = (limits : Limits) (quota t : ℕ) (own : List Entry) (p : ℕ) (c : List Item)
    → (x : Item) → IsPossible limits quota t own → t < limits.threads
    → BearsStamp t (length (inserted own)) x → Holds (hand_of t own) p c → Contains c x → ⊥

-- and the thread made no more deletions than all threads may make insertions
abbrev pub OwnDeletionsAreFew : Type 0
OwnDeletionsAreFew = (limits : Limits) (quota t : ℕ) (own : List Entry)
    → IsPossible limits quota t own → t < limits.threads
    → length (deleted own) ≤ limits.threads * quota
