-- A look notes the front of the shared part, and each look in a list was at the front of a world on the way.
use Rattle.std.proofs.Common.{◌≡◌, inl, inr, ℕ, ◌<◌, List, [], ◌∷◌, ◌++◌, length, take, Some, unwrap_or, refl, sym, ap, ◌∙◌, subst, arith}
use Rattle.std.specs.List.{slice_get}
use Rattle.std.proofs.lemmas.Bool.{cases_eq}
use Rattle.std.proofs.lemmas.Option.{none-some}
use Rattle.klsm_schedules.specs.declared.step.Step.{Step}
use Rattle.klsm_schedules.specs.declared.step.Step.TheVariants.{Acquire, Commit, Release, Miss, Look, Mark, See}
use Rattle.klsm_schedules.specs.declared.step.Entry.{Entry}
use Rattle.klsm_schedules.specs.declared.step.Entry.TheVariants.{Acquired, Committed, Released, Missed, Looked, Marked, Saw}
use Rattle.klsm_schedules.specs.OwnSteps.{work_of}
use Rattle.klsm_schedules.specs.Worlds.{Limits, World, home_of, holder_of, steps_of}
use Rattle.klsm_schedules.specs.LawfulWorlds.{IsLawful}
use Rattle.klsm_schedules.specs.Schedules.{MayStep, noted, next}
use Rattle.klsm_schedules.specs.Laws.{ListsTellFronts, LooksTellFronts, WasFront}
use Rattle.klsm_schedules.proofs.lemmas.hands.NotedLemmas.{steps_noted, steps_else}
use Rattle.klsm_schedules.proofs.lemmas.hands.AgreeLemmas.{no_steps}
use Rattle.klsm_schedules.proofs.lemmas.lawful.LegalLemmas.{earlier_or_last}
use Rattle.klsm_schedules.proofs.lemmas.theorems.RunLemmas.{schedules_keep_lawful}

pub looks_tell_fronts : LooksTellFronts
looks_tell_fronts limits w t lawful may =
    steps_noted w (next w (Look t)) t (Looked w.front) (omega (arith, may.thread, lawful.agreed.lists_are)) refl
    ∙ ap (λ n. steps_of w t ++ Looked n ∷ []) lawful.front_is

-- an entry is a look
abbrev IsLooked : Entry → Type 0
IsLooked (Acquired p found) = ⊥
IsLooked (Committed event) = ⊥
IsLooked (Released p) = ⊥
IsLooked (Missed p by) = ⊥
IsLooked (Looked front) = Unit {0}
IsLooked (Marked key) = ⊥
IsLooked (Saw u key) = ⊥

-- what a look noted
abbrev noted_front : Entry → ℕ
noted_front (Acquired p found) = 0
noted_front (Committed event) = 0
noted_front (Released p) = 0
noted_front (Missed p by) = 0
noted_front (Looked front) = front
noted_front (Marked key) = 0
noted_front (Saw u key) = 0

-- a look in a list is one of those before the latest step, or that step
module _ (limits : Limits) (before : List Step) (step : Step) (v w : World) (t i front : ℕ) where
  longer : (own : List Entry) → WasFront limits before t own front → WasFront limits (step ∷ before) t own front
  longer own was = record {
    world = was.world;
    before = was.before;
    later = step ∷ was.later;
    on_the_way = ap (λ z. step ∷ z) was.on_the_way;
    leads = was.leads;
    list_is = was.list_is;
    front_is = was.front_is;
  }

  by_entry : (u : ℕ) (entry : Entry) → u < length v.lists → w.lists ≡ noted v u entry
      → (entry ≡ Looked front → u ≡ t → WasFront limits (step ∷ before) t (steps_of v t) front)
      → (slice_get (steps_of v t) i ≡ Some (Looked front) → WasFront limits before t (take i (steps_of v t)) front)
      → slice_get (steps_of w t) i ≡ Some (Looked front) → WasFront limits (step ∷ before) t (take i (steps_of w t)) front
  by_entry u entry inside lists here old found = elim (cases_eq t u) [
    | inl this ↦
        let is : steps_of w t ≡ steps_of v t ++ entry ∷ [] = subst (λ z. steps_of w z ≡ steps_of v z ++ entry ∷ []) (sym this) (steps_noted v w u entry inside lists) in
        elim (earlier_or_last (steps_of v t) entry i (Looked front) (ap (λ (z : List Entry). slice_get z i) (sym is) ∙ found)) [
          | inl earlier ↦ subst (λ z. WasFront limits (step ∷ before) t z front) (sym (ap (λ (z : List Entry). take i z) is ∙ earlier.1)) (longer (take i (steps_of v t)) (old earlier.0))
          | inr latest ↦ subst (λ z. WasFront limits (step ∷ before) t z front) (sym (ap (λ (z : List Entry). take i z) is ∙ latest.1)) (here latest.0 (sym this))
        ]
    | inr other ↦
        let is : steps_of w t ≡ steps_of v t = steps_else v w u t entry other lists in
        subst (λ z. WasFront limits (step ∷ before) t (take i z) front) (sym is) (longer (take i (steps_of v t)) (old (ap (λ (z : List Entry). slice_get z i) (sym is) ∙ found)))
  ]

pub lists_tell_fronts : ListsTellFronts
lists_tell_fronts limits [] w t i front leads found =
    absurd (none-some (Looked front) (ap (λ (z : List Entry). slice_get z i) (sym (ap (λ (z : World). steps_of z t) leads ∙ no_steps limits t)) ∙ found))
lists_tell_fronts limits (step ∷ before) w t i front leads found =
    by_step step leads.legal leads.after (λ old. lists_tell_fronts limits before leads.before t i front leads.led old)
  where
    v : World
    v = leads.before

    lawful : IsLawful limits v
    lawful = schedules_keep_lawful limits before v leads.led

    by_step : (step : Step) → MayStep limits v step → w ≡ next v step
        → (slice_get (steps_of v t) i ≡ Some (Looked front) → WasFront limits before t (take i (steps_of v t)) front)
        → WasFront limits (step ∷ before) t (take i (steps_of w t)) front
    by_step (Acquire u p) may is old =
        by_entry limits before (Acquire u p) v w t i front u (Acquired p (unwrap_or (home_of v p) [])) (omega (arith, may.thread, lawful.agreed.lists_are)) (ap (λ (z : World). z.lists) is)
        (λ same this. absurd (subst IsLooked (sym same) tt)) old found
    by_step (Commit u event) may is old =
        by_entry limits before (Commit u event) v w t i front u (Committed event) (omega (arith, may.thread, lawful.agreed.lists_are)) (ap (λ (z : World). z.lists) is)
        (λ same this. absurd (subst IsLooked (sym same) tt)) old found
    by_step (Release u p) may is old =
        by_entry limits before (Release u p) v w t i front u (Released p) (omega (arith, may.thread, lawful.agreed.lists_are)) (ap (λ (z : World). z.lists) is)
        (λ same this. absurd (subst IsLooked (sym same) tt)) old found
    by_step (Miss u p) may is old =
        by_entry limits before (Miss u p) v w t i front u (Missed p (holder_of v p)) (omega (arith, may.thread, lawful.agreed.lists_are)) (ap (λ (z : World). z.lists) is)
        (λ same this. absurd (subst IsLooked (sym same) tt)) old found
    by_step (Look u) may is old =
        by_entry limits before (Look u) v w t i front u (Looked v.front) (omega (arith, may.thread, lawful.agreed.lists_are)) (ap (λ (z : World). z.lists) is)
        (λ same this. record {
          world = v;
          before = before;
          later = [];
          on_the_way = ap (λ z. Look z ∷ before) this;
          leads = leads.led;
          list_is = refl;
          front_is = sym (ap noted_front same) ∙ lawful.front_is;
        }) old found
    by_step (Mark u key) may is old =
        by_entry limits before (Mark u key) v w t i front u (Marked key) (omega (arith, may.thread, lawful.agreed.lists_are)) (ap (λ (z : World). z.lists) is)
        (λ same this. absurd (subst IsLooked (sym same) tt)) old found
    by_step (See u other) may is old =
        by_entry limits before (See u other) v w t i front u (Saw other (work_of (steps_of v other))) (omega (arith, may.thread, lawful.agreed.lists_are)) (ap (λ (z : World). z.lists) is)
        (λ same this. absurd (subst IsLooked (sym same) tt)) old found
