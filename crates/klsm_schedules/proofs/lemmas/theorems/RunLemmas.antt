-- The events of a schedule are a run of the relaxed queue, which holds what is live.
use Rattle.std.proofs.Common.{◌≡◌, ◌⊎◌, inl, inr, ℕ, zero, suc, ◌+◌, ◌-◌, ◌*◌, ◌<◌, ◌≤◌, List, [], ◌∷◌, length, unwrap_or, sym, refl, ap, ◌∙◌, subst, arith, suc-mul}
use Rattle.std.specs.List.{Contains, flat_map}
use Rattle.std.proofs.lemmas.Bool.{cases_eq}
use Rattle.std.proofs.lemmas.List.Elements.{Contains-append_left, Contains-append_right}
use Rattle.std.proofs.lemmas.List.Concat.{flat_map-cons}
use Rattle.klsm_run.specs.declared.item.Item.{Item}
use Rattle.klsm_run.specs.ItemOrder.{is_smaller}
use Rattle.klsm_run.specs.Content.{placed, sorted, without, skipped}
use Rattle.klsm_run.proofs.SortedLemmas.{length_sorted}
use Rattle.klsm_run.proofs.ContentLemmas.{sorted_itself}
use Rattle.klsm_run.proofs.ContainsLemmas.{contains_sorted, contains_unsorted}
use Rattle.klsm_run.proofs.RankLemmas.{count_sorted}
use Rattle.klsm_run.proofs.WithoutLemmas.{without_placed}
use Rattle.klsm_run.proofs.IndexLemmas.{index_of, taken_at, contains_at}
use Rattle.klsm_parts.specs.Events.{times, IsInReach}
use Rattle.klsm_parts.specs.Least.{least}
use Rattle.klsm_parts.proofs.EventLemmas.{is_in}
use Rattle.klsm_schedules.specs.declared.step.Event.{Event}
use Rattle.klsm_schedules.specs.declared.step.Event.TheVariants.{Put, Flush, Take, Early, Nothing, Spy, Refill, Steal, Share}
use Rattle.klsm_schedules.specs.declared.step.Step.{Step}
use Rattle.klsm_schedules.specs.declared.step.Step.TheVariants.{Acquire, Commit, Release, Miss, Look, Mark, See}
use Rattle.klsm_schedules.specs.declared.step.Entry.{Entry}
use Rattle.klsm_schedules.specs.declared.step.Entry.TheVariants.{Acquired, Committed, Released, Missed, Looked, Marked, Saw}
use Rattle.klsm_schedules.specs.OwnSteps.{Holds, own_part, shared_part, inserted_by, deleted_by, event_at, work_of}
use Rattle.klsm_schedules.specs.Worlds.{Limits, World, home_of, holder_of, hand_in, content_of, live_below, live, first_world, steps_of}
use Rattle.klsm_schedules.specs.LawfulWorlds.{IsLawful}
use Rattle.klsm_schedules.specs.Schedules.{MayStep, noted, next, Leads}
use Rattle.klsm_schedules.specs.RelaxedQueue.{queue_after, MayMove, queue_of, IsRun, event_of, events_of}
use Rattle.klsm_schedules.specs.Laws.{SchedulesAreRuns}
use Rattle.klsm_schedules.proofs.lemmas.counts.EventCountLemmas.{times_append, times_contained, times_plus, times_without}
use Rattle.klsm_schedules.proofs.lemmas.counts.SameLemmas.{same_if_counted}
use Rattle.klsm_schedules.proofs.lemmas.counts.GainLemmas.{live_gains}
use Rattle.klsm_schedules.proofs.lemmas.hands.PartContentLemmas.{content_held}
use Rattle.klsm_schedules.proofs.lemmas.theorems.SkipLemmas.{live_takes_skip_few, live_earlies_skip_few, live_nothing_leaves_few}
use Rattle.klsm_schedules.proofs.lemmas.theorems.StampLemmas.{next_is_not_live}
use Rattle.klsm_schedules.proofs.lemmas.lawful.FirstLemmas.{first_is_lawful, none_live_first}
use Rattle.klsm_schedules.proofs.lemmas.lawful.LawfulLemmas.{lawful_kept}

-- an item of a part is live
pub live_part : (w : World) (n p : ℕ) (x : Item) → p < n → Contains (content_of w p) x → Contains (live_below w n) x
live_part w zero p x less within = absurd (omega (arith, less))
live_part w (suc n) p x less within = elim (cases_eq p n) [
  | inl same ↦ Contains-append_right (live_below w n) (content_of w n) x (subst (λ q. Contains (content_of w q) x) same within)
  | inr other ↦ Contains-append_left (live_below w n) (content_of w n) x (live_part w n p x (omega (arith, less, other)) within)
]

-- a taken item is in one of the two parts
taken_from : (k : ℕ) (own shared : List Item) (x : Item) → IsInReach k own shared x → Contains own x ⊎ Contains shared x
taken_from k own shared x (inl taken) = inl (is_in x own taken.1)
taken_from k own shared x (inr taken) = by_place (is_in x (taken.0 ∷ own) taken.2)
  where
    candidate_in : Contains shared taken.0
    candidate_in =
        let at = index_of (least (k + 1) shared) taken.0 taken.1 in
        contains_unsorted taken.0 shared (contains_at (sorted shared) at.0 taken.0 (taken_at (k + 1) (sorted shared) at.0 taken.0 at.1).1)

    by_place : Contains (taken.0 ∷ own) x → Contains own x ⊎ Contains shared x
    by_place (zero, less, same) = inr (subst (Contains shared) same candidate_in)
    by_place (suc i, less, same) = inl (i, omega (arith, less), same)

-- in a lawful world a taken item is live
pub taken_is_live : (limits : Limits) (w : World) (t : ℕ) (x : Item) → IsLawful limits w → MayStep limits w (Commit t (Take x)) → Contains (live w) x
taken_is_live limits w t x lawful may =
    let both = may.commit in
    let part : (p : ℕ) (c : List Item) → p ≤ limits.threads → Holds (hand_in w t) p c → Contains c x → Contains (live w) x = λ p c inside holds within.
    live_part w (length w.homes) p x (omega (arith, inside, lawful.agreed.homes_are))
    (subst (λ d. Contains d x) (sym (content_held limits w t p c lawful.agreed may.thread holds)) within) in
    elim (taken_from limits.k both.own both.other x both.fits.in_reach) [
      | inl own ↦ part (own_part t) both.own (omega (arith, may.thread)) both.holds_own own
      | inr shared ↦ part shared_part both.other (omega arith) both.holds_other shared
    ]

-- so is the item of an Early
pub early_is_live : (limits : Limits) (w : World) (t : ℕ) (x : Item) (front : ℕ) → IsLawful limits w → MayStep limits w (Commit t (Early x front)) → Contains (live w) x
early_is_live limits w t x front lawful may =
    let own = may.commit in
    live_part w (length w.homes) (own_part t) x (omega (arith, may.thread, lawful.agreed.homes_are))
    (subst (λ d. Contains d x) (sym (content_held limits w t (own_part t) own.own lawful.agreed may.thread own.holds_own)) (is_in x own.own own.fits.least))

-- (T-1)·k is at most T·k
one_less : (threads k n : ℕ) → n ≤ (threads - 1) * k → n ≤ threads * k
one_less zero k n few = few
one_less (suc threads) k n few =
    let some : ℕ = threads * k in
    let same : suc threads - 1 ≡ threads = omega arith in
    let less : n ≤ some = subst (λ m. n ≤ m * k) same few in
    let more : suc threads * k ≡ some + k = suc-mul threads k in
    omega (arith, less, more)

-- in a lawful world the queue of live items may move by an event that a thread may commit
pub live_may_move : (limits : Limits) (w : World) (t : ℕ) (event : Event) → IsLawful limits w → MayStep limits w (Commit t event) → MayMove limits (sorted (live w)) event
live_may_move limits w t (Put x) lawful may = λ within. next_is_not_live limits w t x lawful may.commit.stamp (contains_unsorted x (live w) within)
live_may_move limits w t (Flush x moved) lawful may = λ within. next_is_not_live limits w t x lawful may.commit.stamp (contains_unsorted x (live w) within)
live_may_move limits w t (Take x) lawful may = (
  contains_sorted x (live w) (taken_is_live limits w t x lawful may),
  subst (λ n. n ≤ limits.threads * limits.k) (sym (count_sorted (λ y. is_smaller y x) (live w))) (live_takes_skip_few limits w t x lawful may),
)
live_may_move limits w t (Early x front) lawful may = (
  contains_sorted x (live w) (early_is_live limits w t x front lawful may),
  subst (λ n. n ≤ limits.threads * limits.k) (sym (count_sorted (λ y. is_smaller y x) (live w)))
      (one_less limits.threads limits.k (skipped (live w) x) (live_earlies_skip_few limits w t x front lawful may)),
)
live_may_move limits w t Nothing lawful may =
    subst (λ n. n ≤ (limits.threads - 1) * limits.k) (sym (length_sorted (live w))) (live_nothing_leaves_few limits w t lawful may)
live_may_move limits w t (Spy victim moved) lawful may = tt
live_may_move limits w t (Steal victim moved) lawful may = tt
live_may_move limits w t (Refill moved) lawful may = tt
live_may_move limits w t (Share moved) lawful may = tt

-- what an entry inserts or deletes, done to the queue of live items, gives those of the next world
module _ (limits : Limits) (v w : World) (t : ℕ) (lawful : IsLawful limits v) (after : IsLawful limits w) (within : t < limits.threads) where
  -- an entry that neither inserts nor deletes
  quiet : (entry : Entry) → w.lists ≡ noted v t entry → flat_map inserted_by (event_at entry) ≡ [] → flat_map deleted_by (event_at entry) ≡ [] → sorted (live v) ≡ sorted (live w)
  quiet entry lists none_in none_out = same_if_counted (live v) (live w) (λ x.
      let gains = live_gains limits v w t entry lawful after within lists x in
      let came : times x (flat_map inserted_by (event_at entry)) ≡ 0 = ap (times x) none_in in
      let went : times x (flat_map deleted_by (event_at entry)) ≡ 0 = ap (times x) none_out in
      omega (arith, gains, came, went))

  inserts : (entry : Entry) (y : Item) → w.lists ≡ noted v t entry → flat_map inserted_by (event_at entry) ≡ y ∷ [] → flat_map deleted_by (event_at entry) ≡ [] → placed y (sorted (sorted (live v))) ≡ sorted (live w)
  inserts entry y lists one_in none_out =
      ap (placed y) (sorted_itself (live v))
      ∙ same_if_counted (y ∷ live v) (live w) (λ x.
      let gains = live_gains limits v w t entry lawful after within lists x in
      let came : times x (flat_map inserted_by (event_at entry)) ≡ times x (y ∷ []) = ap (times x) one_in in
      let went : times x (flat_map deleted_by (event_at entry)) ≡ 0 = ap (times x) none_out in
      omega (arith, gains, came, went, times_append x (y ∷ []) (live v)))

  deletes : (entry : Entry) (y : Item) → w.lists ≡ noted v t entry → flat_map inserted_by (event_at entry) ≡ [] → flat_map deleted_by (event_at entry) ≡ y ∷ [] → without y (sorted (live v)) ≡ sorted (live w)
  deletes entry y lists none_in one_out =
      let back : sorted (live v) ≡ sorted (y ∷ live w) = same_if_counted (live v) (y ∷ live w) (λ x.
      let gains = live_gains limits v w t entry lawful after within lists x in
      let came : times x (flat_map inserted_by (event_at entry)) ≡ 0 = ap (times x) none_in in
      let went : times x (flat_map deleted_by (event_at entry)) ≡ times x (y ∷ []) = ap (times x) one_out in
      omega (arith, gains, came, went, times_append x (y ∷ []) (live w))) in
      ap (without y) back ∙ without_placed y (sorted (live w))

  -- a committed event
  committed : (event : Event) → w.lists ≡ noted v t (Committed event) → queue_after (sorted (live v)) event ≡ sorted (live w)
  committed (Put x) lists = inserts (Committed (Put x)) x lists refl refl
  committed (Flush x moved) lists = inserts (Committed (Flush x moved)) x lists refl refl
  committed (Take x) lists = deletes (Committed (Take x)) x lists refl refl
  committed (Early x front) lists = deletes (Committed (Early x front)) x lists refl refl
  committed Nothing lists = quiet (Committed Nothing) lists refl refl
  committed (Spy victim moved) lists = quiet (Committed (Spy victim moved)) lists refl refl
  committed (Steal victim moved) lists = quiet (Committed (Steal victim moved)) lists refl refl
  committed (Refill moved) lists = quiet (Committed (Refill moved)) lists refl refl
  committed (Share moved) lists = quiet (Committed (Share moved)) lists refl refl

-- the events of a schedule with one step more
module _ (before : List Step) where
  pub commit_adds : (t : ℕ) (event : Event) → events_of (Commit t event ∷ before) ≡ event ∷ events_of before
  commit_adds t event = flat_map-cons event_of (Commit t event) before

  pub acquire_adds_none : (t p : ℕ) → events_of (Acquire t p ∷ before) ≡ events_of before
  acquire_adds_none t p = flat_map-cons event_of (Acquire t p) before

  pub release_adds_none : (t p : ℕ) → events_of (Release t p ∷ before) ≡ events_of before
  release_adds_none t p = flat_map-cons event_of (Release t p) before

  pub miss_adds_none : (t p : ℕ) → events_of (Miss t p ∷ before) ≡ events_of before
  miss_adds_none t p = flat_map-cons event_of (Miss t p) before

  pub look_adds_none : (t : ℕ) → events_of (Look t ∷ before) ≡ events_of before
  look_adds_none t = flat_map-cons event_of (Look t) before

  pub mark_adds_none : (t key : ℕ) → events_of (Mark t key ∷ before) ≡ events_of before
  mark_adds_none t key = flat_map-cons event_of (Mark t key) before

  pub see_adds_none : (t u : ℕ) → events_of (See t u ∷ before) ≡ events_of before
  see_adds_none t u = flat_map-cons event_of (See t u) before

-- each schedule leads to a lawful world
pub schedules_keep_lawful : (limits : Limits) (steps : List Step) (w : World) → Leads limits steps w → IsLawful limits w
schedules_keep_lawful limits [] w leads = subst (IsLawful limits) (sym leads) (first_is_lawful limits)
schedules_keep_lawful limits (step ∷ before) w leads =
    subst (IsLawful limits) (sym leads.after) (lawful_kept limits leads.before step (schedules_keep_lawful limits before leads.before leads.led) leads.legal)

-- no item is live in the first world
first_is_empty : (limits : Limits) → [] ≡ sorted (live (first_world limits))
first_is_empty limits = ap sorted (sym (none_live_first limits))

-- after the events of a schedule the queue has the live items
pub queue_is_live : (limits : Limits) (steps : List Step) (w : World) → Leads limits steps w → queue_of (events_of steps) ≡ sorted (live w)
queue_is_live limits [] w leads = first_is_empty limits ∙ ap (λ u. sorted (live u)) (sym leads)
queue_is_live limits (step ∷ before) w leads =
    let v = leads.before in
    let lawful = schedules_keep_lawful limits before v leads.led in
    let old : queue_of (events_of before) ≡ sorted (live v) = queue_is_live limits before v leads.led in
    let after : IsLawful limits (next v step) = lawful_kept limits v step lawful leads.legal in
    by_step step lawful leads.legal after old ∙ ap (λ u. sorted (live u)) (sym leads.after)
  where
    by_step : (step : Step) → {v : World} → IsLawful limits v → MayStep limits v step → IsLawful limits (next v step) → queue_of (events_of before) ≡ sorted (live v)
        → queue_of (events_of (step ∷ before)) ≡ sorted (live (next v step))
    by_step (Acquire t p) {v} lawful may after old =
        ap queue_of (acquire_adds_none before t p) ∙ (old ∙ quiet limits v (next v (Acquire t p)) t lawful after may.thread (Acquired p (unwrap_or (home_of v p) [])) refl refl refl)
    by_step (Commit t event) {v} lawful may after old =
        ap queue_of (commit_adds before t event) ∙ (ap (λ c. queue_after c event) old ∙ committed limits v (next v (Commit t event)) t lawful after may.thread event refl)
    by_step (Release t p) {v} lawful may after old =
        ap queue_of (release_adds_none before t p) ∙ (old ∙ quiet limits v (next v (Release t p)) t lawful after may.thread (Released p) refl refl refl)
    by_step (Miss t p) {v} lawful may after old =
        ap queue_of (miss_adds_none before t p) ∙ (old ∙ quiet limits v (next v (Miss t p)) t lawful after may.thread (Missed p (holder_of v p)) refl refl refl)
    by_step (Look t) {v} lawful may after old =
        ap queue_of (look_adds_none before t) ∙ (old ∙ quiet limits v (next v (Look t)) t lawful after may.thread (Looked v.front) refl refl refl)
    by_step (Mark t key) {v} lawful may after old =
        ap queue_of (mark_adds_none before t key) ∙ (old ∙ quiet limits v (next v (Mark t key)) t lawful after may.thread (Marked key) refl refl refl)
    by_step (See t u) {v} lawful may after old =
        ap queue_of (see_adds_none before t u) ∙ (old ∙ quiet limits v (next v (See t u)) t lawful after may.thread (Saw u (work_of (steps_of v u))) refl refl refl)

-- the events of a schedule are a run of the relaxed queue
pub schedules_are_runs : SchedulesAreRuns
schedules_are_runs limits [] w leads = tt
schedules_are_runs limits (Acquire t p ∷ before) w leads = subst (IsRun limits) (sym (acquire_adds_none before t p)) (schedules_are_runs limits before leads.before leads.led)
schedules_are_runs limits (Commit t event ∷ before) w leads =
    let v = leads.before in
    let moves : MayMove limits (sorted (live v)) event = live_may_move limits v t event (schedules_keep_lawful limits before v leads.led) leads.legal in
    subst (IsRun limits) (sym (commit_adds before t event))
    (schedules_are_runs limits before v leads.led, subst (λ c. MayMove limits c event) (sym (queue_is_live limits before v leads.led)) moves)
schedules_are_runs limits (Release t p ∷ before) w leads = subst (IsRun limits) (sym (release_adds_none before t p)) (schedules_are_runs limits before leads.before leads.led)
schedules_are_runs limits (Miss t p ∷ before) w leads = subst (IsRun limits) (sym (miss_adds_none before t p)) (schedules_are_runs limits before leads.before leads.led)
schedules_are_runs limits (Look t ∷ before) w leads = subst (IsRun limits) (sym (look_adds_none before t)) (schedules_are_runs limits before leads.before leads.led)
schedules_are_runs limits (Mark t key ∷ before) w leads = subst (IsRun limits) (sym (mark_adds_none before t key)) (schedules_are_runs limits before leads.before leads.led)
schedules_are_runs limits (See t u ∷ before) w leads = subst (IsRun limits) (sym (see_adds_none before t u)) (schedules_are_runs limits before leads.before leads.led)

-- in a run each item inserted is one deleted or one that the queue still has, each as often
pub queue_counts_insertions : (limits : Limits) (events : List Event) → IsRun limits events
    → (x : Item) → times x (flat_map inserted_by events) ≡ times x (flat_map deleted_by events) + times x (queue_of events)
queue_counts_insertions limits [] run x = refl
queue_counts_insertions limits (event ∷ before) run x =
    let came = ap (times x) (flat_map-cons inserted_by event before) ∙ times_append x (inserted_by event) (flat_map inserted_by before) in
    let went = ap (times x) (flat_map-cons deleted_by event before) ∙ times_append x (deleted_by event) (flat_map deleted_by before) in
    omega (arith, came, went, one_event (queue_of before) event run.1, queue_counts_insertions limits before run.0 x)
  where
    one_event : (c : List Item) (event : Event) → MayMove limits c event → times x (queue_after c event) + times x (deleted_by event) ≡ times x c + times x (inserted_by event)
    one_event c (Put y) may = omega (arith, times_plus x c (y ∷ []))
    one_event c (Flush y moved) may = omega (arith, times_plus x c (y ∷ []))
    one_event c (Take y) may = omega (arith, times_without x y c (times_contained y c may.0))
    one_event c (Early y front) may = omega (arith, times_without x y c (times_contained y c may.0))
    one_event c Nothing may = omega arith
    one_event c (Spy victim moved) may = omega arith
    one_event c (Steal victim moved) may = omega arith
    one_event c (Refill moved) may = omega arith
    one_event c (Share moved) may = omega arith
