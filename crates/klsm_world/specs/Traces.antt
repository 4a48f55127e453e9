-- What a whole run of steps answers.
use Rattle.std.specs.Prelude.{ℕ, ◌≡◌, ◌≢◌, ◌*◌, ◌<◌, ◌≤◌, ◌⊎◌, List, [], ◌∷◌, max, take, reverse, slice_get, Some}
use Rattle.std.specs.List.{flat_map}
use Rattle.klsm_run.specs.declared.item.Item.{Item}
use Rattle.klsm_world.specs.declared.world.TheConstants.{WORLD_K, WORLD_THREADS}
use Rattle.klsm_run.specs.Content.{sorted, skipped}
use Rattle.klsm_parts.specs.Events.{minus}
use Rattle.klsm_schedules.specs.declared.step.Event.{Event}
use Rattle.klsm_schedules.specs.declared.step.Event.TheVariants.{Put, Flush, Take, Early, Nothing, Spy, Refill, Steal, Share}
use Rattle.klsm_schedules.specs.declared.step.Step.{Step}
use Rattle.klsm_world.specs.declared.errors.StepError.TheVariants as step_error
use Rattle.klsm_world.specs.declared.errors.WorldError.{WorldError}
use Rattle.klsm_world.specs.declared.errors.WorldError.TheVariants.{BadThreads, BadK, At, NoMemory}
use Rattle.klsm_schedules.specs.Worlds.{Limits, World}
use Rattle.klsm_schedules.specs.Schedules.{Leads}
use Rattle.klsm_schedules.specs.OwnSteps.{inserted_by, deleted_by}
use Rattle.klsm_schedules.specs.RelaxedQueue.{IsRun, events_of, queue_of}
use Rattle.klsm_world.specs.Refusals.{Refuses}
use Rattle.klsm_world.specs.WorldView.{AreLimits}

-- the greatest number of items that a deletion among the events skipped, and 0 where there is none
abbrev pub most_skipped : List Event → ℕ
most_skipped [] = 0
most_skipped (Put x ∷ before) = most_skipped before
most_skipped (Flush x moved ∷ before) = most_skipped before
most_skipped (Take x ∷ before) = max (skipped (queue_of before) x) (most_skipped before)
most_skipped (Early x front ∷ before) = max (skipped (queue_of before) x) (most_skipped before)
most_skipped (Nothing ∷ before) = most_skipped before
most_skipped (Spy victim moved ∷ before) = most_skipped before
most_skipped (Refill moved ∷ before) = most_skipped before
most_skipped (Share moved ∷ before) = most_skipped before
most_skipped (Steal victim moved ∷ before) = most_skipped before

-- steps, the latest first, are a schedule whose events are a run of the relaxed queue, and this is
-- the greatest skip, over the insertions less the deletions before each deletion
pub record IsSchedule (limits : Limits) (steps : List Step) (most : ℕ) : Type 0 where
  pub world : World
  pub leads : Leads limits steps world
  pub run : IsRun limits (events_of steps)
  pub most_is : most ≡ most_skipped (events_of steps)
  pub bound : most ≤ limits.threads * limits.k

-- what a run of the steps, the first one first, answers
pub record IsTrace (limits : Limits) (steps : List Step) (inserted deleted : List Item) (most : ℕ)
    (left : List Item) : Type 0 where
  pub limits_are : AreLimits limits
  pub schedule : IsSchedule limits (reverse steps) most
  -- the items of the insertions and of the deletions, in the order of their steps
  pub inserted_are : inserted ≡ flat_map inserted_by (events_of steps)
  pub deleted_are : deleted ≡ flat_map deleted_by (events_of steps)
  -- what was inserted and not deleted, ascending
  pub left_are : left ≡ minus (sorted inserted) deleted

-- a run is refused for this reason
abbrev pub RefusesRun : Limits → List Step → WorldError → Type 0
RefusesRun limits steps BadThreads = (limits.threads ≡ 0) ⊎ (WORLD_THREADS < limits.threads)
RefusesRun limits steps BadK = (1 ≤ limits.threads) × (limits.threads ≤ WORLD_THREADS) × (WORLD_K < limits.k)
RefusesRun limits steps (At index why) =
    AreLimits limits × (why ≢ step_error.NoMemory)
    × ((w : World) × (step : Step) × Leads limits (reverse (take index steps)) w
    × (slice_get steps index ≡ Some step) × Refuses limits w step why)
RefusesRun limits steps NoMemory = AreLimits limits
