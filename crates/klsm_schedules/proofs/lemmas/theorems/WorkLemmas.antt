-- The keys in work: where no thread that works at a key from some number on inserts one below it, the least key of all that
-- lives and of all that threads work at does not fall below it.
use Rattle.std.proofs.Common.{◌≡◌, inl, inr, ℕ, zero, suc, ◌<◌, ◌≤◌, List, [], ◌∷◌, ◌++◌, length, get_or, set, Option, Some, None, unwrap_or, refl, sym, ap, ◌∙◌, subst, arith}
use Rattle.std.specs.List.{Contains, flat_map, slice_get}
use Rattle.std.proofs.lemmas.Bool.{cases_eq}
use Rattle.std.proofs.lemmas.List.Concat.{flat_map-append, flat_map-cons}
use Rattle.std.proofs.lemmas.List.Elements.{Contains-append_cases}
use Rattle.std.proofs.lemmas.List.Sums.{fold-append}
use Rattle.klsm_run.specs.declared.item.Item.{Item}
use Rattle.klsm_run.specs.Content.{sorted}
use Rattle.klsm_parts.specs.Events.{front_of, key_or_greatest, times}
use Rattle.klsm_parts.proofs.EventLemmas.{is_in}
use Rattle.klsm_schedules.specs.declared.step.Event.TheVariants.{Put, Flush, Take, Early, Nothing, Spy, Refill, Steal, Share}
use Rattle.klsm_schedules.specs.declared.step.Step.{Step}
use Rattle.klsm_schedules.specs.declared.step.Step.TheVariants.{Acquire, Commit, Release, Miss, Look, Mark, See}
use Rattle.klsm_schedules.specs.declared.step.Entry.{Entry}
use Rattle.klsm_schedules.specs.declared.step.Entry.TheVariants.{Acquired, Committed, Released, Missed, Looked, Marked, Saw}
use Rattle.klsm_schedules.specs.OwnSteps.{deleted_by, inserted_by, no_key, work_after, work_of}
use Rattle.klsm_schedules.specs.Worlds.{Limits, World, holder_of, home_of, live, steps_of}
use Rattle.klsm_schedules.specs.LawfulWorlds.{IsLawful}
use Rattle.klsm_schedules.specs.Schedules.{MayStep, next, noted}
use Rattle.klsm_schedules.specs.RelaxedQueue.{event_of, events_of}
use Rattle.klsm_schedules.specs.WorkLaws.{ChildrenStayAbove, InsertsNoneBelow, LeadsBy, LeastOpenStaysAbove, LedAbove, StaysAbove, WorkHolds, WorkHoldsOfDeleted, least_open, least_work, thread_of}
use Rattle.klsm_schedules.proofs.lemmas.counts.EventCountLemmas.{contained_if_counted, times_contained}
use Rattle.klsm_schedules.proofs.lemmas.lawful.LawfulLemmas.{lawful_kept}
use Rattle.klsm_schedules.proofs.lemmas.theorems.LiveLemmas.{front_at_most, step_gains}
use Rattle.klsm_schedules.proofs.lemmas.theorems.RunLemmas.{early_is_live, taken_is_live}
use Rattle.klsm_schedules.proofs.lemmas.theorems.StampLemmas.{contains_none, contains_one}

-- the least of the keys in work is none of the threads' above that of any thread, nor above the greatest number
work_at_most : (lists : List (List Entry)) (t : ℕ) → t < length lists → least_work lists ≤ work_of (get_or lists t [])
work_at_most [] t inside = absurd (omega (arith, inside))
work_at_most (own ∷ lists) zero inside = omega arith
work_at_most (own ∷ lists) (suc t) inside = omega (arith, work_at_most lists t (omega (arith, inside)))

work_below_all : (lists : List (List Entry)) → least_work lists ≤ no_key
work_below_all [] = omega arith
work_below_all (own ∷ lists) = omega (arith, work_below_all lists)

-- what is at most all keys in work is so where one list is another
work_set : (key : ℕ) (lists : List (List Entry)) (t : ℕ) (own : List Entry) → key ≤ least_work lists → key ≤ work_of own → key ≤ least_work (set lists t own)
work_set key [] t own all one = all
work_set key (other ∷ lists) zero own all one = omega (arith, all, one)
work_set key (other ∷ lists) (suc t) own all one = omega (arith, all, work_set key lists t own (omega (arith, all)) one)

-- the key that a thread works at after one more entry
pub work_more : (own : List Entry) (entry : Entry) → work_of (own ++ entry ∷ []) ≡ work_after (work_of own) entry
work_more own entry = fold-append work_after no_key own (entry ∷ [])

-- no live item has a key below this one, nor does a thread work at one
record IsBelow (key : ℕ) (w : World) : Type 0 where
  pub items : (x : Item) → Contains (live w) x → key ≤ x.key
  pub work : key ≤ least_work w.lists

module _ (limits : Limits) (key : ℕ) (w : World) (lawful : IsLawful limits w) (below : IsBelow key w) where
  -- a thread works at no item with a key below
  work_of_thread : (t : ℕ) → t < limits.threads → key ≤ work_of (steps_of w t)
  work_of_thread t inside = omega (arith, below.work, work_at_most w.lists t (omega (arith, inside, lawful.agreed.lists_are)))

  thread_inside : (step : Step) → MayStep limits w step → thread_of step < limits.threads
  thread_inside (Acquire t p) may = may.thread
  thread_inside (Commit t event) may = may.thread
  thread_inside (Release t p) may = may.thread
  thread_inside (Miss t p) may = may.thread
  thread_inside (Look t) may = may.thread
  thread_inside (Mark t new) may = may.thread
  thread_inside (See t u) may = may.thread

  key_below_all : key ≤ no_key
  key_below_all = omega (arith, below.work, work_below_all w.lists)

  -- what a step inserts that stays above has no key below
  inserted_above : (step : Step) → MayStep limits w step → StaysAbove key w step → InsertsNoneBelow key step
  inserted_above step may stays = stays (work_of_thread (thread_of step) (thread_inside step may))

  -- so no item that lives after a step has one
  live_above : (step : Step) → MayStep limits w step → StaysAbove key w step → (x : Item) → Contains (live (next w step)) x → key ≤ x.key
  live_above step may stays x within =
      let some = times_contained x (live (next w step)) within in
      let gains = step_gains limits w step x lawful may in
      elim (cases_eq (times x (live w)) 0) [
        | inl none ↦ inserted_above step may stays x (contained_if_counted x (flat_map inserted_by (event_of step)) (omega (arith, some, gains, none)))
        | inr lived ↦ below.items x (contained_if_counted x (live w) (omega (arith, lived)))
      ]

  -- nor has one that the step deletes
  deleted_above : (step : Step) (x : Item) → MayStep limits w step → Contains (flat_map deleted_by (event_of step)) x → key ≤ x.key
  deleted_above (Acquire t p) x may within = absurd (contains_none x within)
  deleted_above (Commit t (Put y)) x may within = absurd (contains_none x within)
  deleted_above (Commit t (Flush y moved)) x may within = absurd (contains_none x within)
  deleted_above (Commit t (Take y)) x may within = below.items x (subst (Contains (live w)) (contains_one x y within) (taken_is_live limits w t y lawful may))
  deleted_above (Commit t (Early y front)) x may within = below.items x (subst (Contains (live w)) (contains_one x y within) (early_is_live limits w t y front lawful may))
  deleted_above (Commit t Nothing) x may within = absurd (contains_none x within)
  deleted_above (Commit t (Spy victim moved)) x may within = absurd (contains_none x within)
  deleted_above (Commit t (Refill moved)) x may within = absurd (contains_none x within)
  deleted_above (Commit t (Steal victim moved)) x may within = absurd (contains_none x within)
  deleted_above (Commit t (Share moved)) x may within = absurd (contains_none x within)
  deleted_above (Release t p) x may within = absurd (contains_none x within)
  deleted_above (Miss t p) x may within = absurd (contains_none x within)
  deleted_above (Look t) x may within = absurd (contains_none x within)
  deleted_above (Mark t new) x may within = absurd (contains_none x within)
  deleted_above (See t u) x may within = absurd (contains_none x within)

  -- where one list gains an entry after which its thread works at no item with a key below, no thread does
  work_noted : (t : ℕ) (entry : Entry) → key ≤ work_after (work_of (steps_of w t)) entry → key ≤ least_work (noted w t entry)
  work_noted t entry above =
      work_set key w.lists t (steps_of w t ++ entry ∷ []) below.work (subst (λ n. key ≤ n) (sym (work_more (steps_of w t) entry)) above)

  work_above : (step : Step) → MayStep limits w step → key ≤ least_work (next w step).lists
  work_above (Acquire t p) may = work_noted t (Acquired p (unwrap_or (home_of w p) [])) (work_of_thread t may.thread)
  work_above (Commit t (Put y)) may = work_noted t (Committed (Put y)) (work_of_thread t may.thread)
  work_above (Commit t (Flush y moved)) may = work_noted t (Committed (Flush y moved)) (work_of_thread t may.thread)
  work_above (Commit t (Take y)) may = work_noted t (Committed (Take y)) (below.items y (taken_is_live limits w t y lawful may))
  work_above (Commit t (Early y front)) may = work_noted t (Committed (Early y front)) (below.items y (early_is_live limits w t y front lawful may))
  work_above (Commit t Nothing) may = work_noted t (Committed Nothing) key_below_all
  work_above (Commit t (Spy victim moved)) may = work_noted t (Committed (Spy victim moved)) (work_of_thread t may.thread)
  work_above (Commit t (Refill moved)) may = work_noted t (Committed (Refill moved)) (work_of_thread t may.thread)
  work_above (Commit t (Steal victim moved)) may = work_noted t (Committed (Steal victim moved)) (work_of_thread t may.thread)
  work_above (Commit t (Share moved)) may = work_noted t (Committed (Share moved)) (work_of_thread t may.thread)
  work_above (Release t p) may = work_noted t (Released p) (work_of_thread t may.thread)
  work_above (Miss t p) may = work_noted t (Missed p (holder_of w p)) (work_of_thread t may.thread)
  work_above (Look t) may = work_noted t (Looked w.front) (work_of_thread t may.thread)
  work_above (Mark t new) may = elim may.key_is [
    | inl same ↦ work_noted t (Marked new) (subst (λ n. key ≤ n) (sym same) (work_of_thread t may.thread))
    | inr none ↦ work_noted t (Marked new) (subst (λ n. key ≤ n) (sym none) key_below_all)
  ]
  work_above (See t u) may = work_noted t (Saw u (work_of (steps_of w u))) (work_of_thread t may.thread)

  below_kept : (step : Step) → MayStep limits w step → StaysAbove key w step → IsBelow key (next w step)
  below_kept step may stays = record { items = live_above step may stays; work = work_above step may }

-- steps that stay above lead to lawful worlds, in which all keys are above
record HasHeld (limits : Limits) (key : ℕ) (w : World) : Type 0 where
  pub lawful : IsLawful limits w
  pub below : IsBelow key w

open_below : (v : World) → IsBelow (least_open v) v
open_below v = record { items = λ x within. omega (arith, front_at_most (live v) x within); work = omega arith }

less_below : (key least : ℕ) (v : World) → key ≤ least → IsBelow least v → IsBelow key v
less_below key least v less below = record { items = λ x within. omega (arith, less, below.items x within); work = omega (arith, less, below.work) }

has_held : (limits : Limits) (key : ℕ) (v : World) (steps : List Step) (w : World) → IsLawful limits v → IsBelow key v
    → LeadsBy limits (StaysAbove key) v steps w → HasHeld limits key w
has_held limits key v [] w lawful below leads = subst (HasHeld limits key) (sym leads) (record { lawful = lawful; below = below })
has_held limits key v (step ∷ before) w lawful below leads =
    let u = leads.on.before in
    let old = has_held limits key v before u lawful below leads.on.led in
    subst (HasHeld limits key) (sym leads.on.after) (record {
      lawful = lawful_kept limits u step old.lawful leads.on.legal;
      below = below_kept limits key u old.lawful old.below step leads.on.legal leads.allowed;
    })

-- nor do they delete one below
deleted_held : (limits : Limits) (key : ℕ) (v : World) (steps : List Step) (w : World) (x : Item) → IsLawful limits v → IsBelow key v
    → LeadsBy limits (StaysAbove key) v steps w → Contains (flat_map deleted_by (events_of steps)) x → key ≤ x.key
deleted_held limits key v [] w x lawful below leads within = absurd (contains_none x within)
deleted_held limits key v (step ∷ before) w x lawful below leads within =
    let u = leads.on.before in
    let old = has_held limits key v before u lawful below leads.on.led in
    let both : flat_map deleted_by (events_of (step ∷ before)) ≡ flat_map deleted_by (event_of step) ++ flat_map deleted_by (events_of before) =
    ap (flat_map deleted_by) (flat_map-cons event_of step before) ∙ flat_map-append deleted_by (event_of step) (events_of before) in
    elim (Contains-append_cases (flat_map deleted_by (event_of step)) (flat_map deleted_by (events_of before)) x (subst (λ c. Contains c x) both within)) [
      | inl now ↦ deleted_above limits key u old.lawful old.below step x leads.on.legal now
      | inr earlier ↦ deleted_held limits key v before u x lawful below leads.on.led earlier
    ]

below_led : (limits : Limits) (key : ℕ) (v : World) (steps : List Step) (w : World) → LedAbove limits key v steps w → IsBelow key v
below_led limits key v steps w led = less_below key (least_open v) v led.within (open_below v)

held_led : (limits : Limits) (key : ℕ) (v : World) (steps : List Step) (w : World) → LedAbove limits key v steps w → HasHeld limits key w
held_led limits key v steps w led = has_held limits key v steps w led.lawful (below_led limits key v steps w led) led.leads

pub work_holds : WorkHolds
work_holds limits key v w steps x led within = (held_led limits key v steps w led).below.items x within

pub work_holds_of_deleted : WorkHoldsOfDeleted
work_holds_of_deleted limits key v w steps x led within =
    deleted_held limits key v steps w x led.lawful (below_led limits key v steps w led) led.leads within

-- a key that no item of a content is below is not above its front
front_above : (key : ℕ) (c : List Item) → key ≤ no_key → ((x : Item) → Contains c x → key ≤ x.key) → key ≤ front_of c
front_above key c most all = by_least (slice_get (sorted c) 0) refl
  where
    by_least : (o : Option Item) → slice_get (sorted c) 0 ≡ o → key ≤ front_of c
    by_least None none = subst (λ n. key ≤ n) (sym (ap key_or_greatest none)) most
    by_least (Some y) some = subst (λ n. key ≤ n) (sym (ap key_or_greatest some)) (all y (is_in y c some))

pub least_open_stays_above : LeastOpenStaysAbove
least_open_stays_above limits key v w steps led =
    let below = (held_led limits key v steps w led).below in
    let most : key ≤ no_key = omega (arith, below.work, work_below_all w.lists) in
    let front = front_above key (live w) most below.items in
    omega (arith, below.work, front)

pub children_stay_above : ChildrenStayAbove
children_stay_above limits key v w [] leads = leads
children_stay_above limits key v w (step ∷ before) leads = record {
  on = record {
    before = leads.on.before;
    led = children_stay_above limits key v leads.on.before before leads.on.led;
    legal = leads.on.legal;
    after = leads.on.after;
  };
  allowed = λ less x within. omega (arith, less, leads.allowed x within);
}
