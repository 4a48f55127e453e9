-- The keys in work: what holds of all that is deleted later, where no thread that works at a key from some number on
-- inserts one below it.
use Rattle.std.specs.Prelude.{ℕ, ◌≡◌, ◌<◌, ◌≤◌, List, [], ◌∷◌, min}
use Rattle.std.specs.List.{Contains, flat_map}
use Rattle.klsm_run.specs.declared.item.Item.{Item}
use Rattle.klsm_parts.specs.Events.{front_of}
use Rattle.klsm_schedules.specs.declared.step.Step.{Step}
use Rattle.klsm_schedules.specs.declared.step.Step.TheVariants.{Acquire, Commit, Release, Miss, Look, Mark, See}
use Rattle.klsm_schedules.specs.declared.step.Entry.{Entry}
use Rattle.klsm_schedules.specs.OwnSteps.{deleted_by, inserted_by, no_key, seen_of, work_of}
use Rattle.klsm_schedules.specs.Worlds.{Limits, World, steps_of, live}
use Rattle.klsm_schedules.specs.LawfulWorlds.{IsLawful}
use Rattle.klsm_schedules.specs.Schedules.{Leads, LeadsOn}
use Rattle.klsm_schedules.specs.RelaxedQueue.{event_of, events_of}

-- the least of the keys that the threads of these lists work at
abbrev pub least_work : List (List Entry) → ℕ
least_work [] = no_key
least_work (own ∷ lists) = min (work_of own) (least_work lists)

-- the least key of all live items and of all that threads work at
abbrev pub least_open : World → ℕ
least_open w = min (front_of (live w)) (least_work w.lists)

-- the thread that makes a step
abbrev pub thread_of : Step → ℕ
thread_of (Acquire t p) = t
thread_of (Commit t event) = t
thread_of (Release t p) = t
thread_of (Miss t p) = t
thread_of (Look t) = t
thread_of (Mark t key) = t
thread_of (See t u) = t

-- the key that this thread works at
abbrev pub work_before : World → Step → ℕ
work_before w step = work_of (steps_of w (thread_of step))

-- a step inserts no item with a key below this one
abbrev pub InsertsNoneBelow : ℕ → Step → Type 0
InsertsNoneBelow key step = (x : Item) → Contains (flat_map inserted_by (event_of step)) x → key ≤ x.key

-- where its thread works at no key below this one, a step inserts none below it
abbrev pub StaysAbove : ℕ → World → Step → Type 0
StaysAbove key w step = key ≤ work_before w step → InsertsNoneBelow key step

-- what a step inserts has a key no less than that of the item that its thread works at: it is a child of that item
abbrev pub BringsChild : World → Step → Type 0
BringsChild w step = InsertsNoneBelow (work_before w step) step

-- a legal step leads to this world from one of which this is true, and it is one that this allows there
pub record LeadsOnBy (limits : Limits) (Led : World → Type 0) (Allows : World → Step → Type 0) (step : Step) (w : World)
    : Type 0 where
  pub on : LeadsOn limits Led step w
  pub allowed : Allows on.before step

-- such steps, the latest first, lead on from one world to another
abbrev pub LeadsBy : Limits → (World → Step → Type 0) → World → List Step → World → Type 0
LeadsBy limits Allows v [] w = w ≡ v
LeadsBy limits Allows v (step ∷ before) w = LeadsOnBy limits (LeadsBy limits Allows v before) Allows step w

-- From a lawful world steps led to another, and this key was at most the least of all that lived and that threads worked
-- at. No thread inserted an item below it while it worked at none below it.
pub record LedAbove (limits : Limits) (key : ℕ) (v : World) (steps : List Step) (w : World) : Type 0 where
  pub lawful : IsLawful limits v
  pub within : key ≤ least_open v
  pub leads : LeadsBy limits (StaysAbove key) v steps w

-- then no item that lives after them is below it
abbrev pub WorkHolds : Type 0
WorkHolds = (limits : Limits) (key : ℕ) (v w : World) (steps : List Step) (x : Item) → LedAbove limits key v steps w
    → Contains (live w) x → key ≤ x.key

-- nor is one that they delete
abbrev pub WorkHoldsOfDeleted : Type 0
WorkHoldsOfDeleted = (limits : Limits) (key : ℕ) (v w : World) (steps : List Step) (x : Item)
    → LedAbove limits key v steps w → Contains (flat_map deleted_by (events_of steps)) x → key ≤ x.key

-- so the least of all that live and that threads work at does not fall below it
abbrev pub LeastOpenStaysAbove : Type 0
LeastOpenStaysAbove = (limits : Limits) (key : ℕ) (v w : World) (steps : List Step) → LedAbove limits key v steps w
    → key ≤ least_open w

-- Steps that insert children alone are such steps, whatever the key is. So with them that least key never falls.
abbrev pub ChildrenStayAbove : Type 0
ChildrenStayAbove = (limits : Limits) (key : ℕ) (v w : World) (steps : List Step)
    → LeadsBy limits BringsChild v steps w → LeadsBy limits (StaysAbove key) v steps w

-- these threads work at these keys
abbrev pub AreAtWork : World → List (ℕ × ℕ) → Type 0
AreAtWork w [] = Unit {0}
AreAtWork w (seen ∷ others) = (seen.1 ≡ work_of (steps_of w seen.0)) × AreAtWork w others

-- what a thread saw of others' work, while it has their parts in hand, is so in each world with its list
abbrev pub SeenKeysHold : Type 0
SeenKeysHold = (limits : Limits) (steps : List Step) (w : World) (t : ℕ) → Leads limits steps w → t < limits.threads
    → AreAtWork w (seen_of (steps_of w t))
