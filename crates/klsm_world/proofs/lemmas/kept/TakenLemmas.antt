-- A step that a running world took.
use Rattle.std.proofs.Common.{◌≡◌, ℕ, ◌+◌, ◌-◌, ◌<◌, List, [], length, get_or, set, Ok, refl, sym, ap, ◌∙◌, subst, arith}
use Rattle.klsm_run.specs.declared.item.Item.{Item}
use Rattle.klsm_schedules.specs.declared.step.Step.{Step}
use Rattle.klsm_schedules.specs.declared.step.Step.TheVariants.{Acquire, Commit, Release, Miss, Look, Mark, See}
use Rattle.klsm_schedules.specs.declared.step.Event.{Event}
use Rattle.klsm_schedules.specs.declared.step.Entry.{Entry}
use Rattle.klsm_schedules.specs.declared.step.Entry.TheVariants.{Acquired, Committed, Released, Missed, Looked, Marked, Saw}
use Rattle.klsm_parts.specs.Events.{front_of}
use Rattle.klsm_world.specs.Kept.{IsKept, world_of}
use Rattle.klsm_world.specs.WorldView.{WorldView, IsStepped}
use Rattle.klsm_schedules.specs.OwnSteps.{work_of}
use Rattle.klsm_schedules.specs.Schedules.{MayStep, next}
use Rattle.klsm_schedules.specs.Worlds.{Limits, World, steps_of}
use Rattle.klsm_world.proofs.lemmas.kept.KeptLemmas.{lists_with, kept_acquired, kept_released, kept_missed, kept_looked, kept_marked, kept_seen}
use Rattle.klsm_world.proofs.lemmas.kept.KeptCommitLemmas.{contents_after, kept_committed}

-- a running world, by what it keeps
abbrev pub shown : Limits → List ℕ → List (List Item) → List (List Entry) → WorldView
shown limits words contents lists = record { limits = limits; world = world_of words contents lists }

-- a step that is legal in a running world is legal in what it keeps
pub may_shown : (before : WorldView) (limits : Limits) (words : List ℕ) (contents : List (List Item)) (lists : List (List Entry)) (step : Step)
    → shown limits words contents lists ≡ before → MayStep before.limits before.world step → MayStep limits (world_of words contents lists) step
may_shown before limits words contents lists step is may = subst (λ (r : WorldView). MayStep r.limits r.world step) (sym is) may

-- what is kept after a step, and that the step was taken
step_taken : (before : WorldView) (limits : Limits) (words words' : List ℕ) (contents contents' contents'' : List (List Item)) (lists lists' lists'' : List (List Entry)) (step : Step)
    → shown limits words contents lists ≡ before → MayStep before.limits before.world step → contents'' ≡ contents' → lists'' ≡ lists'
    → (world_of words' contents' lists' ≡ next (world_of words contents lists) step) × IsKept limits words' contents' lists'
    → IsKept limits words' contents'' lists'' × IsStepped before step (Ok tt) (shown limits words' contents'' lists'')
step_taken before limits words words' contents contents' contents'' lists lists' lists'' step is may same_contents same_lists next_is =
    subst (λ c. IsKept limits words' c lists'' × IsStepped before step (Ok tt) (shown limits words' c lists'')) (sym same_contents)
    (subst (λ l. IsKept limits words' contents' l × IsStepped before step (Ok tt) (shown limits words' contents' l)) (sym same_lists) (
      next_is.1,
      subst (λ (r : WorldView). MayStep r.limits r.world step → IsStepped r step (Ok tt) (shown limits words' contents' lists')) is
          (λ legal. record { taken = (legal, ap (λ (w : World). record { limits = limits; world = w }) next_is.0); refused = tt; unchanged = tt }) may,
    ))

module _ (before : WorldView) (limits : Limits) (words : List ℕ) (contents : List (List Item)) (lists lists'' : List (List Entry)) (t : ℕ)
    (is : shown limits words contents lists ≡ before) (kept : IsKept limits words contents lists)
  where
    -- an acquire
    pub acquire_taken : (p : ℕ) (found : List Item) → MayStep before.limits before.world (Acquire t p) → lists'' ≡ lists_with lists t (Acquired p found)
        → (p < length contents → found ≡ get_or contents p [])
        → IsKept limits (set words p (t + 1)) contents lists'' × IsStepped before (Acquire t p) (Ok tt) (shown limits (set words p (t + 1)) contents lists'')
    acquire_taken p found may noted copy =
        let legal : MayStep limits (world_of words contents lists) (Acquire t p) = may_shown before limits words contents lists (Acquire t p) is may in
        let within : p < length contents = omega (arith, legal.part, kept.contents_are) in
        step_taken before limits words (set words p (t + 1)) contents contents contents lists (lists_with lists t (Acquired p (get_or contents p []))) lists'' (Acquire t p) is may refl
        (noted ∙ ap (λ xs. lists_with lists t (Acquired p xs)) (copy within)) (kept_acquired limits words contents lists t p kept legal)

    -- a release
    pub release_taken : (p : ℕ) → MayStep before.limits before.world (Release t p) → lists'' ≡ lists_with lists t (Released p)
        → IsKept limits (set words p 0) contents lists'' × IsStepped before (Release t p) (Ok tt) (shown limits (set words p 0) contents lists'')
    release_taken p may noted =
        step_taken before limits words (set words p 0) contents contents contents lists (lists_with lists t (Released p)) lists'' (Release t p) is may refl noted
        (kept_released limits words contents lists t p kept (may_shown before limits words contents lists (Release t p) is may))

    -- a miss
    pub miss_taken : (p word : ℕ) → MayStep before.limits before.world (Miss t p) → lists'' ≡ lists_with lists t (Missed p (word - 1))
        → (p < length words → word ≡ get_or words p 0)
        → IsKept limits words contents lists'' × IsStepped before (Miss t p) (Ok tt) (shown limits words contents lists'')
    miss_taken p word may noted read =
        let legal : MayStep limits (world_of words contents lists) (Miss t p) = may_shown before limits words contents lists (Miss t p) is may in
        let within : p < length words = omega (arith, legal.part, kept.lawful.agreed.words_are) in
        step_taken before limits words words contents contents contents lists (lists_with lists t (Missed p (get_or words p 0 - 1))) lists'' (Miss t p) is may refl
        (noted ∙ ap (λ v. lists_with lists t (Missed p (v - 1))) (read within)) (kept_missed limits words contents lists t p kept legal)

    -- a look
    pub look_taken : (front : ℕ) → MayStep before.limits before.world (Look t) → lists'' ≡ lists_with lists t (Looked front) → front ≡ before.world.front
        → IsKept limits words contents lists'' × IsStepped before (Look t) (Ok tt) (shown limits words contents lists'')
    look_taken front may noted read =
        let legal : MayStep limits (world_of words contents lists) (Look t) = may_shown before limits words contents lists (Look t) is may in
        step_taken before limits words words contents contents contents lists (lists_with lists t (Looked (front_of (get_or contents 0 [])))) lists'' (Look t) is may refl
        (noted ∙ ap (λ n. lists_with lists t (Looked n)) (read ∙ sym (ap (λ (r : WorldView). r.world.front) is))) (kept_looked limits words contents lists t kept legal)

    -- a mark
    pub mark_taken : (key : ℕ) → MayStep before.limits before.world (Mark t key) → lists'' ≡ lists_with lists t (Marked key)
        → IsKept limits words contents lists'' × IsStepped before (Mark t key) (Ok tt) (shown limits words contents lists'')
    mark_taken key may noted =
        step_taken before limits words words contents contents contents lists (lists_with lists t (Marked key)) lists'' (Mark t key) is may refl noted
        (kept_marked limits words contents lists t key kept (may_shown before limits words contents lists (Mark t key) is may))

    -- the key of a thread's work is seen
    pub see_taken : (u key : ℕ) → MayStep before.limits before.world (See t u) → lists'' ≡ lists_with lists t (Saw u key) → key ≡ work_of (steps_of before.world u)
        → IsKept limits words contents lists'' × IsStepped before (See t u) (Ok tt) (shown limits words contents lists'')
    see_taken u key may noted read =
        let legal : MayStep limits (world_of words contents lists) (See t u) = may_shown before limits words contents lists (See t u) is may in
        step_taken before limits words words contents contents contents lists (lists_with lists t (Saw u (work_of (get_or lists u [])))) lists'' (See t u) is may refl
        (noted ∙ ap (λ n. lists_with lists t (Saw u n)) (read ∙ sym (ap (λ (r : WorldView). work_of (steps_of r.world u)) is))) (kept_seen limits words contents lists t u kept legal)

    -- a commit
    pub commit_taken : (event : Event) (contents'' : List (List Item)) → MayStep before.limits before.world (Commit t event) → lists'' ≡ lists_with lists t (Committed event)
        → contents'' ≡ contents_after contents t event
        → IsKept limits words contents'' lists'' × IsStepped before (Commit t event) (Ok tt) (shown limits words contents'' lists'')
    commit_taken event contents'' may noted same =
        step_taken before limits words words contents (contents_after contents t event) contents'' lists (lists_with lists t (Committed event)) lists'' (Commit t event) is may same noted
        (kept_committed limits words contents lists t event kept (may_shown before limits words contents lists (Commit t event) is may))
