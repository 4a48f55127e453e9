-- A world as contracts see it, and what a step of it answers.
use Rattle.std.specs.Prelude.{◌≡◌, ◌≤◌, Result, OnOk, OnErr, IfErr}
use Rattle.klsm_world.specs.declared.world.TheConstants.{WORLD_K, WORLD_THREADS}
use Rattle.klsm_schedules.specs.declared.step.Step.{Step}
use Rattle.klsm_world.specs.declared.errors.StepError.{StepError}
use Rattle.klsm_schedules.specs.Worlds.{Limits, World}
use Rattle.klsm_schedules.specs.Schedules.{MayStep, next}
use Rattle.klsm_world.specs.Refusals.{Refuses}

-- a world, and its limits
pub record WorldView : Type 0 where
  pub limits : Limits
  pub world : World

-- 1 to 16 threads, and at most 128 items in an own part
pub record AreLimits (limits : Limits) : Type 0 where
  pub some_threads : 1 ≤ limits.threads
  pub at_most : limits.threads ≤ WORLD_THREADS
  pub k_in_range : limits.k ≤ WORLD_K

-- what a step answers, and where the world then stands
pub record IsStepped (before : WorldView) (step : Step) (result : Result Unit StepError)
    (after : WorldView) : Type 0 where
  pub taken : OnOk result (MayStep before.limits before.world step
      × (after ≡ record { limits = before.limits; world = next before.world step }))
  pub refused : IfErr result (λ why. Refuses before.limits before.world step why)
  pub unchanged : OnErr result (after ≡ before)
