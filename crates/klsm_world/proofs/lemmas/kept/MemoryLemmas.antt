-- A legal step that is refused for want of memory, and leaves the world as it was.
use Rattle.std.proofs.Common.{◌≡◌, ℕ, List, Result, Ok, Err, sym, ap, ◌∙◌, subst}
use Rattle.std.specs.Result.{IsErrAnd}
use Rattle.klsm_run.specs.declared.item.Item.{Item}
use Rattle.klsm_world.specs.declared.errors.StepError.{StepError}
use Rattle.klsm_world.specs.declared.errors.StepError.TheVariants.{NoMemory}
use Rattle.klsm_schedules.specs.declared.step.Entry.{Entry}
use Rattle.klsm_schedules.specs.declared.step.Step.{Step}
use Rattle.klsm_world.specs.Kept.{world_of}
use Rattle.klsm_world.specs.Refusals.{Refuses}
use Rattle.klsm_world.specs.WorldView.{WorldView, IsStepped}
use Rattle.klsm_schedules.specs.Schedules.{MayStep}
use Rattle.klsm_schedules.specs.Worlds.{Limits}

pub refused_for_memory : (before after : WorldView) (step : Step) (result : Result Unit StepError) (why : StepError) → MayStep before.limits before.world step
    → IsErrAnd result (λ error. error ≡ why) → why ≡ NoMemory → after ≡ before → IsStepped before step result after
refused_for_memory before after step (Ok done) why may refused lacks same = absurd refused
refused_for_memory before after step (Err error) why may refused lacks same = record {
  taken = tt;
  refused = subst (Refuses before.limits before.world step) (sym (refused ∙ lacks)) may;
  unchanged = same;
}

-- what a world shows whose lists are as they were
pub lists_kept : {limits : Limits} {before : WorldView} (words : List ℕ) (contents : List (List Item)) {lists after : List (List Entry)} → after ≡ lists
    → record { limits = limits; world = world_of words contents lists } ≡ before → record { limits = limits; world = world_of words contents after } ≡ before
lists_kept {limits = limits} words contents same view = ap (λ (ls : List (List Entry)). record { limits = limits; world = world_of words contents ls }) same ∙ view
