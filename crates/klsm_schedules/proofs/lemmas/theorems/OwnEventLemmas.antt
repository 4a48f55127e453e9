-- A thread's own steps have its events of the schedule, in their order.
use Rattle.std.proofs.Common.{◌≡◌, ◌≢◌, inl, inr, ℕ, ◌<◌, List, [], ◌∷◌, ◌++◌, length, unwrap_or, append-nil, refl, sym, ap, ◌∙◌, arith}
use Rattle.std.specs.Prelude.{reverse}
use Rattle.std.specs.List.{flat_map}
use Rattle.std.proofs.lemmas.Bool.{cases_eq}
use Rattle.std.proofs.lemmas.List.{reverse-append}
use Rattle.klsm_schedules.specs.declared.step.Event.{Event}
use Rattle.klsm_schedules.specs.declared.step.Step.{Step}
use Rattle.klsm_schedules.specs.declared.step.Step.TheVariants.{Acquire, Commit, Release, Miss, Look, Mark, See}
use Rattle.klsm_schedules.specs.declared.step.Entry.{Entry}
use Rattle.klsm_schedules.specs.declared.step.Entry.TheVariants.{Acquired, Committed, Released, Missed, Looked, Marked, Saw}
use Rattle.klsm_schedules.specs.OwnSteps.{event_at, work_of}
use Rattle.klsm_schedules.specs.Worlds.{World, home_of, holder_of, steps_of}
use Rattle.klsm_schedules.specs.Schedules.{MayStep, noted, next}
use Rattle.klsm_schedules.specs.Laws.{event_by, ListsHaveEvents}
use Rattle.klsm_schedules.proofs.lemmas.counts.ItemGrowthLemmas.{flat_map_more}
use Rattle.klsm_schedules.proofs.lemmas.hands.HandLemmas.{choice_hit, choice_miss}
use Rattle.klsm_schedules.proofs.lemmas.hands.NotedLemmas.{steps_noted, steps_else}
use Rattle.klsm_schedules.proofs.lemmas.hands.AgreeLemmas.{no_steps}
use Rattle.klsm_schedules.proofs.lemmas.theorems.RunLemmas.{schedules_keep_lawful}

-- one step's events of a thread, and what its list gains
module _ (v : World) (u t : ℕ) (entry : Entry) (inside : u < length v.lists) (w : World) (lists : w.lists ≡ noted v u entry) where
  gains : (events : List Event) → (u ≡ t → event_at entry ≡ events) → (u ≢ t → events ≡ []) → flat_map event_at (steps_of w t) ≡ flat_map event_at (steps_of v t) ++ events
  gains events mine none = elim (cases_eq t u) [
    | inl same ↦
        ap (λ z. flat_map event_at (steps_of w z)) same
        ∙ (ap (flat_map event_at) (steps_noted v w u entry inside lists)
        ∙ (flat_map_more event_at (steps_of v u) entry
        ∙ (ap (λ es. flat_map event_at (steps_of v u) ++ es) (mine (sym same))
        ∙ ap (λ z. flat_map event_at (steps_of v z) ++ events) (sym same))))
    | inr other ↦
        ap (flat_map event_at) (steps_else v w u t entry other lists)
        ∙ (sym (append-nil (flat_map event_at (steps_of v t))) ∙ ap (λ es. flat_map event_at (steps_of v t) ++ es) (sym (none (λ same. other (sym same)))))
  ]

one_more : (t : ℕ) (step : Step) (before : List Step) → flat_map (event_by t) (reverse (step ∷ before)) ≡ flat_map (event_by t) (reverse before) ++ event_by t step
one_more t step before =
    ap (flat_map (event_by t)) (reverse-append (step ∷ []) before) ∙ flat_map_more (event_by t) (reverse before) step

pub lists_have_events : ListsHaveEvents
lists_have_events limits [] w t leads inside = ap (λ z. flat_map event_at (steps_of z t)) leads ∙ ap (flat_map event_at) (no_steps limits t)
lists_have_events limits (step ∷ before) w t leads inside =
    let v = leads.before in
    let lawful = schedules_keep_lawful limits before v leads.led in
    let many = lawful.agreed.lists_are in
    let old : flat_map event_at (steps_of v t) ≡ flat_map (event_by t) (reverse before) = lists_have_events limits before v t leads.led inside in
    ap (λ z. flat_map event_at (steps_of z t)) leads.after
    ∙ (by_step step v leads.legal many ∙ (ap (λ es. es ++ event_by t step) old ∙ sym (one_more t step before)))
  where
    by_step : (step : Step) (v : World) → MayStep limits v step → length v.lists ≡ limits.threads → flat_map event_at (steps_of (next v step) t) ≡ flat_map event_at (steps_of v t) ++ event_by t step
    by_step (Acquire u p) v may many = gains v u t (Acquired p (unwrap_or (home_of v p) [])) (omega (arith, may.thread, many)) (next v (Acquire u p)) refl [] (λ _. refl) (λ _. refl)
    by_step (Commit u event) v may many =
        gains v u t (Committed event) (omega (arith, may.thread, many)) (next v (Commit u event)) refl (event_by t (Commit u event))
        (λ same. sym (choice_hit u t (event ∷ []) [] same)) (λ other. choice_miss u t (event ∷ []) [] other)
    by_step (Release u p) v may many = gains v u t (Released p) (omega (arith, may.thread, many)) (next v (Release u p)) refl [] (λ _. refl) (λ _. refl)
    by_step (Miss u p) v may many = gains v u t (Missed p (holder_of v p)) (omega (arith, may.thread, many)) (next v (Miss u p)) refl [] (λ _. refl) (λ _. refl)
    by_step (Look u) v may many = gains v u t (Looked v.front) (omega (arith, may.thread, many)) (next v (Look u)) refl [] (λ _. refl) (λ _. refl)
    by_step (Mark u key) v may many = gains v u t (Marked key) (omega (arith, may.thread, many)) (next v (Mark u key)) refl [] (λ _. refl) (λ _. refl)
    by_step (See u other) v may many = gains v u t (Saw other (work_of (steps_of v other))) (omega (arith, may.thread, many)) (next v (See u other)) refl [] (λ _. refl) (λ _. refl)
