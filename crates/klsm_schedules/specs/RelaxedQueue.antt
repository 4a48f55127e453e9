-- The relaxed queue of one thread, M(T, k): a multiset that knows no part, block, lock or thread. A
-- content is given by its ascending list. The lists of events and steps have the latest first, as
-- schedules have.
use Rattle.std.specs.Prelude.{◌*◌, ◌-◌, ◌≤◌, List, [], ◌∷◌, length}
use Rattle.std.specs.List.{Contains, flat_map}
use Rattle.klsm_run.specs.declared.item.Item.{Item}
use Rattle.klsm_run.specs.Content.{skipped, without}
use Rattle.klsm_parts.specs.Events.{plus}
use Rattle.klsm_schedules.specs.declared.step.Event.{Event}
use Rattle.klsm_schedules.specs.declared.step.Event.TheVariants.{Put, Flush, Take, Early, Nothing, Spy, Refill, Steal, Share}
use Rattle.klsm_schedules.specs.declared.step.Step.{Step}
use Rattle.klsm_schedules.specs.declared.step.Step.TheVariants.{Acquire, Commit, Release, Miss, Look, Mark, See}
use Rattle.klsm_schedules.specs.Worlds.{Limits}

-- what an event does to the multiset: it inserts an item, deletes one, or leaves all as it is
abbrev pub queue_after : List Item → Event → List Item
queue_after c (Put x) = plus c (x ∷ [])
queue_after c (Flush x moved) = plus c (x ∷ [])
queue_after c (Take x) = without x c
queue_after c (Early x front) = without x c
queue_after c Nothing = c
queue_after c (Spy victim moved) = c
queue_after c (Steal victim moved) = c
queue_after c (Refill moved) = c
queue_after c (Share moved) = c

-- an item inserted is new; a deletion skips at most T·k items; nothing is answered only where at
-- most (T-1)·k items are left
abbrev pub MayMove : Limits → List Item → Event → Type 0
MayMove limits c (Put x) = Contains c x → ⊥
MayMove limits c (Flush x moved) = Contains c x → ⊥
MayMove limits c (Take x) = Contains c x × (skipped c x ≤ limits.threads * limits.k)
MayMove limits c (Early x front) = Contains c x × (skipped c x ≤ limits.threads * limits.k)
MayMove limits c Nothing = length c ≤ (limits.threads - 1) * limits.k
MayMove limits c (Spy victim moved) = Unit {0}
MayMove limits c (Steal victim moved) = Unit {0}
MayMove limits c (Refill moved) = Unit {0}
MayMove limits c (Share moved) = Unit {0}

-- what is left of the empty multiset after events
abbrev pub queue_of : List Event → List Item
queue_of [] = []
queue_of (event ∷ before) = queue_after (queue_of before) event

-- events are a run of the relaxed queue
abbrev pub IsRun : Limits → List Event → Type 0
IsRun limits [] = Unit {0}
IsRun limits (event ∷ before) = IsRun limits before × MayMove limits (queue_of before) event

-- the events that steps commit
abbrev pub event_of : Step → List Event
event_of (Acquire t p) = []
event_of (Commit t event) = event ∷ []
event_of (Release t p) = []
event_of (Miss t p) = []
event_of (Look t) = []
event_of (Mark t key) = []
event_of (See t u) = []

abbrev pub events_of : List Step → List Event
events_of steps = flat_map event_of steps
