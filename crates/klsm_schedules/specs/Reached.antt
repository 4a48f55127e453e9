-- Schedules that reach the bounds of the laws, so that none of the laws is empty.
use Rattle.std.specs.Prelude.{ℕ, ◌≡◌, ◌*◌, ◌-◌, List, length}
use Rattle.std.specs.List.{Contains}
use Rattle.klsm_run.specs.declared.item.Item.{Item}
use Rattle.klsm_run.specs.Content.{skipped}
use Rattle.klsm_schedules.specs.declared.step.Event.TheVariants.{Take, Early, Nothing, Refill}
use Rattle.klsm_schedules.specs.declared.step.Step.{Step}
use Rattle.klsm_schedules.specs.declared.step.Step.TheVariants.{Commit}
use Rattle.klsm_schedules.specs.Worlds.{Limits, World, live, limits_of}
use Rattle.klsm_schedules.specs.Schedules.{MayStep, Leads}

-- two threads, and at most one item in an own part
abbrev pub two_threads : Limits
two_threads = limits_of 2 1

-- a schedule, its latest step first, after which a thread may delete an item that skips T·k live
-- ones
pub record ReachesMostSkipped (limits : Limits) : Type 0 where
  pub steps : List Step
  pub world : World
  pub thread : ℕ
  pub item : Item
  pub leads : Leads limits steps world
  pub legal : MayStep limits world (Commit thread (Take item))
  pub reached : skipped (live world) item ≡ limits.threads * limits.k

-- a schedule after which a thread may delete by the front an item that skips (T-1)·k live ones
pub record ReachesMostSkippedEarly (limits : Limits) : Type 0 where
  pub steps : List Step
  pub world : World
  pub thread : ℕ
  pub item : Item
  pub front : ℕ
  pub leads : Leads limits steps world
  pub legal : MayStep limits world (Commit thread (Early item front))
  pub reached : skipped (live world) item ≡ (limits.threads - 1) * limits.k

-- a schedule after which a thread may answer "nothing" while (T-1)·k items live
pub record ReachesMostLeft (limits : Limits) : Type 0 where
  pub steps : List Step
  pub world : World
  pub thread : ℕ
  pub leads : Leads limits steps world
  pub legal : MayStep limits world (Commit thread Nothing)
  pub reached : length (live world) ≡ (limits.threads - 1) * limits.k

-- and such schedules in which shared items moved to an own part
abbrev pub HasRefill : List Step → Type 0
HasRefill steps = (thread : ℕ) × (moved : List Item) × Contains steps (Commit thread (Refill moved))

abbrev pub ReachesMostSkippedRefilled : Limits → Type 0
ReachesMostSkippedRefilled limits = (reached : ReachesMostSkipped limits) × HasRefill reached.steps

abbrev pub ReachesMostSkippedEarlyRefilled : Limits → Type 0
ReachesMostSkippedEarlyRefilled limits = (reached : ReachesMostSkippedEarly limits) × HasRefill reached.steps

abbrev pub ReachesMostLeftRefilled : Limits → Type 0
ReachesMostLeftRefilled limits = (reached : ReachesMostLeft limits) × HasRefill reached.steps
