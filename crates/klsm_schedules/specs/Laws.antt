-- What follows from the definitions alone, for every number of threads and every k.
use Rattle.std.specs.Prelude.{ℕ, ◌≡◌, ◌≢◌, ◌*◌, ◌-◌, ◌+◌, ◌<◌, ◌≤◌, ◌==◌, if◌then◌else◌, List, [], ◌∷◌, ◌++◌, length, reverse, slice_get, take, Some}
use Rattle.std.specs.List.{flat_map}
use Rattle.klsm_run.specs.declared.item.Item.{Item}
use Rattle.klsm_run.specs.Content.{sorted, skipped, ShareNone}
use Rattle.klsm_parts.specs.Events.{times, front_of, SkipsNoneOf}
use Rattle.klsm_schedules.specs.declared.step.Event.{Event}
use Rattle.klsm_schedules.specs.declared.step.Event.TheVariants.{Take, Early, Nothing}
use Rattle.klsm_schedules.specs.declared.step.Step.{Step}
use Rattle.klsm_schedules.specs.declared.step.Step.TheVariants.{Acquire, Commit, Release, Miss, Look, Mark, See}
use Rattle.klsm_schedules.specs.declared.step.Entry.{Entry}
use Rattle.klsm_schedules.specs.declared.step.Entry.TheVariants.{Looked}
use Rattle.klsm_schedules.specs.OwnSteps.{shared_part, own_part, event_at, inserted}
use Rattle.klsm_schedules.specs.Worlds.{Limits, World, word_of, home_of, steps_of, content_of, live, first_world}
use Rattle.klsm_schedules.specs.LawfulWorlds.{IsLawful}
use Rattle.klsm_schedules.specs.Schedules.{MayStep, acquired, next, Leads}
use Rattle.klsm_schedules.specs.RelaxedQueue.{IsRun, events_of}
use Rattle.klsm_schedules.specs.Account.{account}

-- the first world is lawful
abbrev pub FirstWorldIsLawful : Type 0
FirstWorldIsLawful = (limits : Limits) → IsLawful limits (first_world limits)

-- a legal step leads from a lawful world to a lawful one
abbrev pub StepsKeepLawful : Type 0
StepsKeepLawful = (limits : Limits) (w : World) (step : Step) → IsLawful limits w
    → MayStep limits w step → IsLawful limits (next w step)

-- so each world to which a schedule leads is lawful
abbrev pub SchedulesKeepLawful : Type 0
SchedulesKeepLawful = (limits : Limits) (steps : List Step) (w : World) → Leads limits steps w
    → IsLawful limits w

-- in a lawful world a deletion that thread t may commit skips at most T·k live items
abbrev pub TakesSkipFew : Type 0
TakesSkipFew = (limits : Limits) (w : World) (t : ℕ) (x : Item) → IsLawful limits w
    → MayStep limits w (Commit t (Take x))
    → skipped (live w) x ≤ limits.threads * limits.k

-- a deletion by the front skips at most (T-1)·k
abbrev pub EarliesSkipFew : Type 0
EarliesSkipFew = (limits : Limits) (w : World) (t : ℕ) (x : Item) (front : ℕ) → IsLawful limits w
    → MayStep limits w (Commit t (Early x front))
    → skipped (live w) x ≤ (limits.threads - 1) * limits.k

-- neither skips an item that thread t itself inserted, of those in its own part and in the shared one
abbrev pub TakesKeepOwnOrder : Type 0
TakesKeepOwnOrder = (limits : Limits) (w : World) (t : ℕ) (x : Item) → IsLawful limits w
    → MayStep limits w (Commit t (Take x))
    → SkipsNoneOf t (content_of w (own_part t) ++ content_of w shared_part) x

abbrev pub EarliesKeepOwnOrder : Type 0
EarliesKeepOwnOrder = (limits : Limits) (w : World) (t : ℕ) (x : Item) (front : ℕ)
    → IsLawful limits w → MayStep limits w (Commit t (Early x front))
    → SkipsNoneOf t (content_of w (own_part t) ++ content_of w shared_part) x

-- in a lawful world at most (T-1)·k items live where thread t may answer nothing
abbrev pub NothingLeavesFew : Type 0
NothingLeavesFew = (limits : Limits) (w : World) (t : ℕ) → IsLawful limits w
    → MayStep limits w (Commit t Nothing)
    → length (live w) ≤ (limits.threads - 1) * limits.k

-- the events of a schedule are a run of the relaxed queue
abbrev pub SchedulesAreRuns : Type 0
SchedulesAreRuns = (limits : Limits) (steps : List Step) (w : World) → Leads limits steps w
    → IsRun limits (events_of steps)

-- where two lawful worlds differ by an acquire of one part, the content recorded is the one that
-- was at home
abbrev pub AcquiresFindContents : Type 0
AcquiresFindContents = (limits : Limits) (v w : World) (t p : ℕ) (found : List Item)
    → IsLawful limits v → IsLawful limits w
    → t < limits.threads → p ≤ limits.threads → word_of v p ≡ 0
    → w ≡ acquired v t p found
    → (c : List Item) × (home_of v p ≡ Some c) × (sorted found ≡ sorted c)

-- in a lawful world a look notes the front of the shared part, be that free or held
abbrev pub LooksTellFronts : Type 0
LooksTellFronts = (limits : Limits) (w : World) (t : ℕ) → IsLawful limits w
    → MayStep limits w (Look t)
    → steps_of (next w (Look t)) t ≡ steps_of w t ++ Looked (front_of (content_of w shared_part)) ∷ []

-- on the way of a schedule, just before a look of thread t, its list was this one, and this the front of the
-- shared part
pub record WasFront (limits : Limits) (steps : List Step) (t : ℕ) (own : List Entry) (front : ℕ) : Type 0 where
  pub before : List Step
  pub later : List Step
  pub on_the_way : steps ≡ later ++ Look t ∷ before
  pub world : World
  pub leads : Leads limits before world
  pub list_is : steps_of world t ≡ own
  pub front_is : front ≡ front_of (content_of world shared_part)

-- so it is of each look that a list notes, and the entries before it
abbrev pub ListsTellFronts : Type 0
ListsTellFronts = (limits : Limits) (steps : List Step) (w : World) (t i front : ℕ) → Leads limits steps w
    → slice_get (steps_of w t) i ≡ Some (Looked front)
    → WasFront limits steps t (take i (steps_of w t)) front

-- in a lawful world the items left by the account are the live ones
abbrev pub AccountsLeaveLive : Type 0
AccountsLeaveLive = (limits : Limits) (w : World) → IsLawful limits w
    → (account w.lists).left ≡ sorted (live w)

-- in a lawful world no item is live twice
abbrev pub LiveItemsDiffer : Type 0
LiveItemsDiffer = (limits : Limits) (w : World) (x : Item) → IsLawful limits w
    → times x (live w) ≤ 1

-- in a lawful world no two parts share an item
abbrev pub PartsShareNone : Type 0
PartsShareNone = (limits : Limits) (w : World) (p q : ℕ) → IsLawful limits w → p ≤ limits.threads
    → q ≤ limits.threads → p ≢ q
    → ShareNone (content_of w p) (content_of w q)

-- in a lawful world as many items were inserted as were deleted and are left
abbrev pub AccountsAddUp : Type 0
AccountsAddUp = (limits : Limits) (w : World) → IsLawful limits w
    → (account w.lists).inserted ≡ (account w.lists).deleted + length (account w.lists).left

-- no thread made more insertions than the quota
abbrev pub IsWithinQuota : Limits → ℕ → World → Type 0
IsWithinQuota limits quota w = (t : ℕ) → t < limits.threads
    → length (inserted (steps_of w t)) ≤ quota

-- then all deletions together are at most T times the quota
abbrev pub DeletionsAreFew : Type 0
DeletionsAreFew = (limits : Limits) (quota : ℕ) (w : World) → IsLawful limits w
    → IsWithinQuota limits quota w
    → (account w.lists).deleted ≤ limits.threads * quota

-- the event that a step commits, where thread t makes it
abbrev pub event_by : ℕ → Step → List Event
event_by t (Acquire u p) = []
event_by t (Commit u event) = if u == t then event ∷ [] else []
event_by t (Release u p) = []
event_by t (Miss u p) = []
event_by t (Look u) = []
event_by t (Mark u key) = []
event_by t (See u v) = []

-- a thread's own steps have its events of the schedule, in their order
abbrev pub ListsHaveEvents : Type 0
ListsHaveEvents = (limits : Limits) (steps : List Step) (w : World) (t : ℕ) → Leads limits steps w
    → t < limits.threads
    → flat_map event_at (steps_of w t) ≡ flat_map (event_by t) (reverse steps)
