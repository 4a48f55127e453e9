-- Contents ascend: of a part at home or in a hand, and as an acquire found it. So the first items are the least ones.
use Rattle.std.specs.Prelude.{ℕ, ◌≡◌, ◌<◌, ◌≤◌, List, take, slice_get, Some}
use Rattle.klsm_run.specs.declared.item.Item.{Item}
use Rattle.klsm_run.specs.Content.{IsAscending}
use Rattle.klsm_parts.specs.Least.{least}
use Rattle.klsm_schedules.specs.declared.step.Step.{Step}
use Rattle.klsm_schedules.specs.declared.step.Entry.TheVariants.{Acquired}
use Rattle.klsm_schedules.specs.OwnSteps.{Holds}
use Rattle.klsm_schedules.specs.Worlds.{Limits, World, steps_of, hand_in, content_of}
use Rattle.klsm_schedules.specs.LawfulWorlds.{IsLawful}
use Rattle.klsm_schedules.specs.Schedules.{MayStep, next, Leads}

-- the content of each part ascends, be it free or held
abbrev pub IsInOrder : Limits → World → Type 0
IsInOrder limits w = (p : ℕ) → p ≤ limits.threads → IsAscending (content_of w p)

-- a legal step keeps the contents of a lawful world so
abbrev pub StepsKeepOrder : Type 0
StepsKeepOrder = (limits : Limits) (w : World) (step : Step) → IsLawful limits w → IsInOrder limits w
    → MayStep limits w step → IsInOrder limits (next w step)

-- so they are in each world to which a schedule leads
abbrev pub ContentsAscend : Type 0
ContentsAscend = (limits : Limits) (steps : List Step) (w : World) → Leads limits steps w → IsInOrder limits w

-- there what a thread's hand has of a part ascends
abbrev pub HandsAscend : Type 0
HandsAscend = (limits : Limits) (steps : List Step) (w : World) (t p : ℕ) (c : List Item) → Leads limits steps w
    → t < limits.threads → Holds (hand_in w t) p c → IsAscending c

-- and what a thread's list says that an acquire found
abbrev pub FoundAscends : Type 0
FoundAscends = (limits : Limits) (steps : List Step) (w : World) (t i p : ℕ) (found : List Item) → Leads limits steps w
    → slice_get (steps_of w t) i ≡ Some (Acquired p found) → IsAscending found

-- the first n items of such a content are its least n
abbrev pub FirstAreLeast : Type 0
FirstAreLeast = (n : ℕ) (c : List Item) → IsAscending c → take n c ≡ least n c
