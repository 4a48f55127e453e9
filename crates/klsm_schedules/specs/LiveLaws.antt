-- What lives, for a thread that has all parts in hand, and what lives later.
use Rattle.std.specs.Prelude.{ℕ, zero, suc, ◌≡◌, ◌+◌, ◌<◌, ◌≤◌, ◌⊎◌, List, [], ◌∷◌, ◌++◌}
use Rattle.std.specs.List.{Contains, flat_map}
use Rattle.klsm_run.specs.declared.item.Item.{Item}
use Rattle.klsm_parts.specs.Events.{front_of}
use Rattle.klsm_schedules.specs.declared.step.Step.{Step}
use Rattle.klsm_schedules.specs.OwnSteps.{Hand, HoldsSome, content_in, inserted_by}
use Rattle.klsm_schedules.specs.Worlds.{Limits, World, hand_in, live}
use Rattle.klsm_schedules.specs.LawfulWorlds.{IsLawful}
use Rattle.klsm_schedules.specs.Schedules.{LeadsOn}
use Rattle.klsm_schedules.specs.RelaxedQueue.{events_of}

-- a hand has all parts of a world of so many threads
abbrev pub HasAllParts : ℕ → Hand → Type 0
HasAllParts threads hand = (p : ℕ) → p ≤ threads → HoldsSome hand p

-- what a hand has of the first n parts
abbrev pub held_below : Hand → ℕ → List Item
held_below hand zero = []
held_below hand (suc n) = held_below hand n ++ content_in hand n

-- in a lawful world a thread that has all parts in hand has the live items there, and no others
abbrev pub FullHandsHaveLive : Type 0
FullHandsHaveLive = (limits : Limits) (w : World) (t : ℕ) → IsLawful limits w → t < limits.threads
    → HasAllParts limits.threads (hand_in w t)
    → held_below (hand_in w t) (limits.threads + 1) ≡ live w

-- steps, the latest first, each of which is legal, lead on from one world to another
abbrev pub LeadsFrom : Limits → World → List Step → World → Type 0
LeadsFrom limits v [] w = w ≡ v
LeadsFrom limits v (step ∷ before) w = LeadsOn limits (LeadsFrom limits v before) step w

-- the items that they insert
abbrev pub inserted_since : List Step → List Item
inserted_since steps = flat_map inserted_by (events_of steps)

-- an item that lives after them lived before, or was inserted since
abbrev pub LaterItemsLived : Type 0
LaterItemsLived = (limits : Limits) (v w : World) (steps : List Step) (x : Item) → IsLawful limits v
    → LeadsFrom limits v steps w → Contains (live w) x
    → Contains (live v) x ⊎ Contains (inserted_since steps) x

-- so its key is at least the least one of those that lived before, or it was inserted since
abbrev pub LeastKeysHold : Type 0
LeastKeysHold = (limits : Limits) (v w : World) (steps : List Step) (x : Item) → IsLawful limits v
    → LeadsFrom limits v steps w → Contains (live w) x
    → (front_of (live v) ≤ x.key) ⊎ Contains (inserted_since steps) x
