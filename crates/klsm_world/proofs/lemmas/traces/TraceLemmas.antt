-- What a run of steps has done so far, and how one step more adds to it.
use Rattle.std.proofs.Common.{◌≡◌, ℕ, ◌+◌, ◌<◌, List, [], ◌∷◌, ◌++◌, length, get_or, take, max, sym, ap, ◌∙◌, subst, arith}
use Rattle.std.specs.Prelude.{reverse}
use Rattle.std.specs.List.{flat_map, sum_by}
use Rattle.std.proofs.lemmas.Grind.{flat_map-append}
use Rattle.std.proofs.lemmas.List.{take_more, reverse-append}
use Rattle.klsm_run.specs.declared.item.Item.{Item}
use Rattle.klsm_run.specs.ItemOrder.{is_smaller}
use Rattle.klsm_run.specs.Content.{skipped}
use Rattle.klsm_run.proofs.RankLemmas.{count_sorted}
use Rattle.klsm_schedules.specs.declared.step.Event.{Event}
use Rattle.klsm_schedules.specs.declared.step.Event.TheVariants.{Put, Flush, Take, Early, Nothing, Spy, Refill, Steal, Share}
use Rattle.klsm_schedules.specs.declared.step.Step.{Step}
use Rattle.klsm_schedules.specs.declared.step.Step.TheVariants.{Acquire, Commit, Release, Miss, Look, Mark, See}
use Rattle.klsm_schedules.specs.Worlds.{Limits, World, live}
use Rattle.klsm_schedules.specs.Schedules.{MayStep, next, Leads}
use Rattle.klsm_schedules.specs.OwnSteps.{inserted_by, deleted_by}
use Rattle.klsm_world.specs.Traces.{most_skipped}
use Rattle.klsm_schedules.specs.RelaxedQueue.{event_of, events_of, queue_of}
use Rattle.klsm_schedules.proofs.lemmas.lists.ListLemmas.{items_more}
use Rattle.klsm_schedules.proofs.lemmas.theorems.RunLemmas.{queue_is_live, commit_adds, acquire_adds_none, release_adds_none, miss_adds_none, look_adds_none, mark_adds_none, see_adds_none}

-- the first steps lead to a world, and this is what they inserted and deleted, and the most that they skipped
pub record HasRun (limits : Limits) (steps : List Step) (count : ℕ) (w : World) (inserted deleted : List Item) (most : ℕ) : Type 0 where
  pub leads : Leads limits (reverse (take count steps)) w
  pub inserted_are : inserted ≡ flat_map inserted_by (events_of (take count steps))
  pub deleted_are : deleted ≡ flat_map deleted_by (events_of (take count steps))
  pub most_is : most ≡ most_skipped (events_of (reverse (take count steps)))

-- the latest step is the first one of a schedule
pub latest_first : (steps : List Step) (count : ℕ) (step : Step) → count < length steps → step ≡ get_or steps count step → reverse (take (count + 1) steps) ≡ step ∷ reverse (take count steps)
latest_first steps count step within is =
    ap reverse (take_more steps count step within) ∙ (reverse-append (take count steps) (get_or steps count step ∷ []) ∙ ap (λ s. s ∷ reverse (take count steps)) (sym is))

-- one step more adds the items of its events
pub items_run : (items_by : Event → List Item) (steps : List Step) (count : ℕ) (step : Step) (before more : List Item) → count < length steps → step ≡ get_or steps count step
    → before ≡ flat_map items_by (events_of (take count steps)) → more ≡ flat_map items_by (event_of step) → before ++ more ≡ flat_map items_by (events_of (take (count + 1) steps))
items_run items_by steps count step before more within is old new =
    let sofar = flat_map items_by (events_of (take count steps)) in
    ap (λ items. items ++ more) old
    ∙ (ap (λ items. sofar ++ items) (new ∙ ap (λ s. flat_map items_by (event_of s)) is)
    ∙ (sym (flat_map-append items_by (events_of (take count steps)) (event_of (get_or steps count step))) ∙ ap (flat_map items_by) (sym (items_more event_of steps count step within))))

-- a schedule with one step more has skipped the more of what it had and of what this step skips
pub most_run : (limits : Limits) (before : List Step) (w : World) (step : Step) → Leads limits before w
    → most_skipped (events_of (step ∷ before)) ≡ max (most_skipped (events_of before)) (sum_by (skipped (live w)) (flat_map deleted_by (event_of step)))
most_run limits before w (Acquire t p) leads = ap most_skipped (acquire_adds_none before t p) ∙ omega arith
most_run limits before w (Release t p) leads = ap most_skipped (release_adds_none before t p) ∙ omega arith
most_run limits before w (Miss t p) leads = ap most_skipped (miss_adds_none before t p) ∙ omega arith
most_run limits before w (Look t) leads = ap most_skipped (look_adds_none before t) ∙ omega arith
most_run limits before w (Mark t key) leads = ap most_skipped (mark_adds_none before t key) ∙ omega arith
most_run limits before w (See t u) leads = ap most_skipped (see_adds_none before t u) ∙ omega arith
most_run limits before w (Commit t (Put x)) leads = ap most_skipped (commit_adds before t (Put x)) ∙ omega arith
most_run limits before w (Commit t (Flush x moved)) leads = ap most_skipped (commit_adds before t (Flush x moved)) ∙ omega arith
most_run limits before w (Commit t Nothing) leads = ap most_skipped (commit_adds before t Nothing) ∙ omega arith
most_run limits before w (Commit t (Spy victim moved)) leads = ap most_skipped (commit_adds before t (Spy victim moved)) ∙ omega arith
most_run limits before w (Commit t (Steal victim moved)) leads = ap most_skipped (commit_adds before t (Steal victim moved)) ∙ omega arith
most_run limits before w (Commit t (Refill moved)) leads = ap most_skipped (commit_adds before t (Refill moved)) ∙ omega arith
most_run limits before w (Commit t (Share moved)) leads = ap most_skipped (commit_adds before t (Share moved)) ∙ omega arith
most_run limits before w (Commit t (Take x)) leads =
    let same : skipped (queue_of (events_of before)) x ≡ skipped (live w) x =
    ap (λ c. skipped c x) (queue_is_live limits before w leads) ∙ count_sorted (λ y. is_smaller y x) (live w) in
    ap most_skipped (commit_adds before t (Take x)) ∙ omega (arith, same)
most_run limits before w (Commit t (Early x front)) leads =
    let same : skipped (queue_of (events_of before)) x ≡ skipped (live w) x =
    ap (λ c. skipped c x) (queue_is_live limits before w leads) ∙ count_sorted (λ y. is_smaller y x) (live w) in
    ap most_skipped (commit_adds before t (Early x front)) ∙ omega (arith, same)

-- one step more
pub has_run_more : (limits : Limits) (steps : List Step) (count : ℕ) (v w : World) (step : Step) (inserted deleted came went : List Item) (most now : ℕ)
    → HasRun limits steps count v inserted deleted most → count < length steps → step ≡ get_or steps count step → MayStep limits v step → w ≡ next v step
    → came ≡ flat_map inserted_by (event_of step) → went ≡ flat_map deleted_by (event_of step) → now ≡ max most (sum_by (skipped (live v)) (flat_map deleted_by (event_of step)))
    → HasRun limits steps (count + 1) w (inserted ++ came) (deleted ++ went) now
has_run_more limits steps count v w step inserted deleted came went most now run within is may led in_items out_items skips =
    let latest = latest_first steps count step within is in
    record {
      leads = subst (λ schedule. Leads limits schedule w) (sym latest) (record { before = v; led = run.leads; legal = may; after = led });
      inserted_are = items_run inserted_by steps count step inserted came within is run.inserted_are in_items;
      deleted_are = items_run deleted_by steps count step deleted went within is run.deleted_are out_items;
      most_is = skips
          ∙ (ap (λ m. max m (sum_by (skipped (live v)) (flat_map deleted_by (event_of step)))) run.most_is
          ∙ (sym (most_run limits (reverse (take count steps)) v step run.leads) ∙ ap (λ schedule. most_skipped (events_of schedule)) (sym latest)));
    }
