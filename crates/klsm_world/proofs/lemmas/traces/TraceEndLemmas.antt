-- What a run of steps has done at its end.
use Rattle.std.proofs.Common.{◌≡◌, ◌≢◌, ℕ, ◌*◌, ◌<◌, ◌≤◌, max, List, [], ◌∷◌, ◌++◌, length, take, get_or, Some, refl, sym, ap, ◌∙◌, subst, arith, nat_cmp}
use Rattle.std.specs.Prelude.{reverse, slice_get}
use Rattle.std.specs.Ordering.{ord_max}
use Rattle.std.proofs.lemmas.Bool.Decides.{nat_tests}
use Rattle.std.proofs.lemmas.Option.{slice_get-get_or}
use Rattle.std.specs.List.{flat_map}
use Rattle.std.proofs.lemmas.List.Concat.{flat_map-cons}
use Rattle.std.proofs.lemmas.Grind.{flat_map-append}
use Rattle.std.proofs.lemmas.List.{reverse-append, take_all}
use Rattle.klsm_run.specs.declared.item.Item.{Item}
use Rattle.klsm_run.specs.ItemOrder.{is_same}
use Rattle.klsm_run.specs.Content.{sorted}
use Rattle.klsm_run.proofs.RankLemmas.{count_sorted}
use Rattle.klsm_parts.specs.Events.{times, minus}
use Rattle.klsm_parts.proofs.EventLemmas.{minus_moved}
use Rattle.klsm_schedules.specs.declared.step.Event.{Event}
use Rattle.klsm_schedules.specs.declared.step.Event.TheVariants.{Put, Flush, Take, Early, Nothing, Spy, Refill, Steal, Share}
use Rattle.klsm_schedules.specs.declared.step.Step.{Step}
use Rattle.klsm_world.specs.declared.errors.StepError.{StepError}
use Rattle.klsm_world.specs.declared.errors.StepError.TheVariants as step_error
use Rattle.klsm_world.specs.declared.errors.WorldError.{WorldError}
use Rattle.klsm_world.specs.declared.errors.WorldError.TheVariants.{At, NoMemory}
use Rattle.klsm_world.specs.Refusals.{Refuses}
use Rattle.klsm_schedules.specs.Worlds.{Limits, World, live}
use Rattle.klsm_schedules.specs.Schedules.{Leads}
use Rattle.klsm_schedules.specs.OwnSteps.{inserted_by, deleted_by}
use Rattle.klsm_schedules.specs.RelaxedQueue.{IsRun, event_of, events_of, queue_of}
use Rattle.klsm_world.specs.WorldView.{AreLimits}
use Rattle.klsm_world.specs.Traces.{IsTrace, RefusesRun, most_skipped}
use Rattle.klsm_schedules.proofs.lemmas.counts.EventCountLemmas.{times_append}
use Rattle.klsm_schedules.proofs.lemmas.counts.ItemGrowthLemmas.{flat_map_more}
use Rattle.klsm_schedules.proofs.lemmas.counts.SameLemmas.{same_if_counted}
use Rattle.klsm_schedules.proofs.lemmas.theorems.RunLemmas.{queue_is_live, queue_counts_insertions, schedules_are_runs}
use Rattle.klsm_world.proofs.lemmas.traces.TraceLemmas.{HasRun}

most_of_both : {a b bound : ℕ} → b ≤ bound → a ≤ bound → max a b ≤ bound
most_of_both below few = omega (arith, below, few)

-- in a run no deletion skips more than T·k items
pub most_few : (limits : Limits) (events : List Event) → IsRun limits events → most_skipped events ≤ limits.threads * limits.k
most_few limits [] run = omega arith
most_few limits (Put x ∷ before) run = most_few limits before run.0
most_few limits (Flush x moved ∷ before) run = most_few limits before run.0
most_few limits (Nothing ∷ before) run = most_few limits before run.0
most_few limits (Spy victim moved ∷ before) run = most_few limits before run.0
most_few limits (Steal victim moved ∷ before) run = most_few limits before run.0
most_few limits (Refill moved ∷ before) run = most_few limits before run.0
most_few limits (Share moved ∷ before) run = most_few limits before run.0
most_few limits (Take x ∷ before) run = most_of_both (most_few limits before run.0) run.1.1
most_few limits (Early x front ∷ before) run = most_of_both (most_few limits before run.0) run.1.1

-- the order of steps does not change how often an item is in their events
pub times_reversed : (x : Item) (items_by : Event → List Item) (steps : List Step) → times x (flat_map items_by (events_of (reverse steps))) ≡ times x (flat_map items_by (events_of steps))
times_reversed x items_by [] = refl
times_reversed x items_by (step ∷ steps) =
    let some = flat_map items_by (event_of step) in
    let rest = flat_map items_by (events_of steps) in
    let back = flat_map items_by (events_of (reverse steps)) in
    let parted : flat_map items_by (events_of (reverse (step ∷ steps))) ≡ back ++ some =
    ap (λ all. flat_map items_by (events_of all)) (reverse-append (step ∷ []) steps)
    ∙ (ap (flat_map items_by) (flat_map_more event_of (reverse steps) step) ∙ flat_map-append items_by (events_of (reverse steps)) (event_of step)) in
    let joined : flat_map items_by (events_of (step ∷ steps)) ≡ some ++ rest =
    ap (flat_map items_by) (flat_map-cons event_of step steps) ∙ flat_map-append items_by (event_of step) (events_of steps) in
    omega (
      arith,
      ap (times x) parted,
      times_append x back some,
      ap (times x) joined,
      times_append x some rest,
      times_reversed x items_by steps,
    )

-- what was inserted, without what was deleted, is what is live
pub left_by_run : (limits : Limits) (steps : List Step) (w : World) → Leads limits (reverse steps) w
    → minus (sorted (flat_map inserted_by (events_of steps))) (flat_map deleted_by (events_of steps)) ≡ sorted (live w)
left_by_run limits steps w leads =
    let all = flat_map inserted_by (events_of steps) in
    let gone = flat_map deleted_by (events_of steps) in
    let counted : (x : Item) → times x all ≡ times x (gone ++ live w) = λ x.
    let queue : times x (queue_of (events_of (reverse steps))) ≡ times x (live w) =
    ap (times x) (queue_is_live limits (reverse steps) w leads) ∙ count_sorted (is_same x) (live w) in
    omega (
      arith,
      queue_counts_insertions limits (events_of (reverse steps)) (schedules_are_runs limits (reverse steps) w leads) x,
      times_reversed x inserted_by steps,
      times_reversed x deleted_by steps,
      queue,
      times_append x gone (live w),
    ) in
    minus_moved gone (live w) all (same_if_counted all (gone ++ live w) counted)

-- a run of all steps is a trace
pub trace_of_run : (limits : Limits) (steps : List Step) (count : ℕ) (w : World) (inserted deleted left : List Item) (most : ℕ) → AreLimits limits
    → HasRun limits steps count w inserted deleted most → length steps ≤ count → left ≡ sorted (live w) → IsTrace limits steps inserted deleted most left
trace_of_run limits steps count w inserted deleted left most are has_run all left_is =
    let taken = take_all count steps all in
    let leads : Leads limits (reverse steps) w = subst (λ (ss : List Step). Leads limits (reverse ss) w) taken has_run.leads in
    let inserted_is : inserted ≡ flat_map inserted_by (events_of steps) = has_run.inserted_are ∙ ap (λ ss. flat_map inserted_by (events_of ss)) taken in
    let deleted_is : deleted ≡ flat_map deleted_by (events_of steps) = has_run.deleted_are ∙ ap (λ ss. flat_map deleted_by (events_of ss)) taken in
    let most_is : most ≡ most_skipped (events_of (reverse steps)) = has_run.most_is ∙ ap (λ ss. most_skipped (events_of (reverse ss))) taken in
    let run : IsRun limits (events_of (reverse steps)) = schedules_are_runs limits (reverse steps) w leads in
    record {
      limits_are = are;
      schedule = record {
        world = w;
        leads = leads;
        run = run;
        most_is = most_is;
        bound = subst (λ (m : ℕ). m ≤ limits.threads * limits.k) (sym most_is) (most_few limits (events_of (reverse steps)) run);
      };
      inserted_are = inserted_is;
      deleted_are = deleted_is;
      left_are = left_is ∙ (sym (left_by_run limits steps w leads) ∙ (ap (λ items. minus (sorted items) (flat_map deleted_by (events_of steps))) (sym inserted_is) ∙ ap (minus (sorted inserted)) (sym deleted_is)));
    }

-- a run is refused where a step of it is
pub refused_by_step : (limits : Limits) (steps : List Step) (index : ℕ) (w : World) (step : Step) (why : StepError) (refusal : WorldError) → AreLimits limits
    → Leads limits (reverse (take index steps)) w → index < length steps → step ≡ get_or steps index step → Refuses limits w step why
    → (why ≡ step_error.NoMemory → refusal ≡ NoMemory) → (why ≢ step_error.NoMemory → refusal ≡ At index why) → RefusesRun limits steps refusal
refused_by_step limits steps index w step why refusal are leads within is refuses no_memory at_step = by_reason why refuses no_memory at_step
  where
    there : slice_get steps index ≡ Some step
    there = slice_get-get_or steps index step within ∙ ap Some (sym is)

    at_this : (why : StepError) → why ≢ step_error.NoMemory → Refuses limits w step why → (why ≢ step_error.NoMemory → refusal ≡ At index why) → RefusesRun limits steps refusal
    at_this why other refuses at_step = subst (RefusesRun limits steps) (sym (at_step other)) (are, other, (w, step, leads, there, refuses))

    by_reason : (why : StepError) → Refuses limits w step why → (why ≡ step_error.NoMemory → refusal ≡ NoMemory) → (why ≢ step_error.NoMemory → refusal ≡ At index why) → RefusesRun limits steps refusal
    by_reason step_error.NoMemory refuses no_memory at_step = subst (RefusesRun limits steps) (sym (no_memory refl)) are
    by_reason step_error.NoSuchPart refuses no_memory at_step = at_this step_error.NoSuchPart (λ same. cc) refuses at_step
    by_reason (step_error.Held by) refuses no_memory at_step = at_this (step_error.Held by) (λ same. cc) refuses at_step
    by_reason step_error.NotHeld refuses no_memory at_step = at_this step_error.NotHeld (λ same. cc) refuses at_step
    by_reason step_error.WrongEvent refuses no_memory at_step = at_this step_error.WrongEvent (λ same. cc) refuses at_step

-- the greater of two numbers, as code computes it
pub greater_of : (a b : ℕ) → ord_max nat_cmp a b ≡ max a b
greater_of a b = grind (arith, nat_tests)
