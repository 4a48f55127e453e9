-- What a thread found in a part is no more than all threads had inserted.
use Rattle.std.proofs.Common.{◌≡◌, ℕ, zero, suc, ◌<◌, ◌≤◌, List, [], ◌∷◌, ◌++◌, length, get_or, set, replicate, refl, sym, ap, subst, ◌∙◌, arith, ◌⊎◌, inl, inr, ⊎_elim, length-append}
use Rattle.std.specs.Prelude.{unwrap_or}
use Rattle.std.specs.List.{flat_map}
use Rattle.std.proofs.lemmas.List.{get_or-set_same, get_or-set_other}
use Rattle.std.proofs.lemmas.List.Concat.{flat_map-cons}
use mathlib.Core.Logic.{dite}
use native.Mathlib.Decide.{ℕ_discrete}
use mathlib.Core.Option.{some, some-ne-none}
use lib.ListN.{get_elem?}
use Rattle.atomic_table.proofs.Lists.{at_snoc}
use Rattle.klsm_run.specs.declared.item.Item.{Item}
use Rattle.klsm_run.proofs.SortedLemmas.{length_sorted}
use Rattle.klsm_schedules.specs.declared.step.Step.{Step}
use Rattle.klsm_schedules.specs.declared.step.Step.TheVariants.{Acquire, Commit, Release, Miss, Look, Mark, See}
use Rattle.klsm_schedules.specs.declared.step.Entry.{Entry}
use Rattle.klsm_schedules.specs.declared.step.Entry.TheVariants.{Acquired, Committed, Released, Missed, Looked, Marked, Saw}
use Rattle.klsm_schedules.specs.OwnSteps.{content_in, inserted, work_of}
use Rattle.klsm_schedules.specs.Worlds.{Limits, World, content_of, hand_in, holder_of, home_of, live, live_below, steps_of}
use Rattle.klsm_schedules.specs.LawfulWorlds.{IsLawful}
use Rattle.klsm_schedules.specs.Schedules.{Leads, MayAcquire, MayStep, next, noted}
use Rattle.klsm_schedules.proofs.lemmas.theorems.AccountLemmas.{accounts_add_up, left_is_live}
use Rattle.klsm_schedules.proofs.lemmas.theorems.RunLemmas.{schedules_keep_lawful}
use Rattle.klsm_board.proofs.lemmas.table.KeepLemmas.{insertions_more}

-- how many items all threads inserted
abbrev pub insertions : List (List Entry) → ℕ
insertions lists = length (flat_map inserted lists)

-- they grow with each entry
insertions_grow : (lists : List (List Entry)) (t : ℕ) (entry : Entry) → insertions lists ≤ insertions (set lists t (get_or lists t [] ++ entry ∷ []))
insertions_grow [] t entry = omega arith
insertions_grow (es ∷ lists) zero entry =
    let a = ap length (flat_map-cons inserted es lists) ∙ length-append (inserted es) (flat_map inserted lists) in
    let b = ap length (flat_map-cons inserted (es ++ entry ∷ []) lists) ∙ length-append (inserted (es ++ entry ∷ [])) (flat_map inserted lists) in
    let more = insertions_more es entry in
    omega (arith, a, b, more)
insertions_grow (es ∷ lists) (suc t) entry =
    let a = ap length (flat_map-cons inserted es lists) ∙ length-append (inserted es) (flat_map inserted lists) in
    let b = ap length (flat_map-cons inserted es (set lists t (get_or lists t [] ++ entry ∷ []))) ∙ length-append (inserted es) (flat_map inserted (set lists t (get_or lists t [] ++ entry ∷ []))) in
    let h = insertions_grow lists t entry in
    omega (arith, a, b, h)

-- a part's items are among the live ones
part_of_live : (w : World) (n p : ℕ) → p < n → length (content_of w p) ≤ length (live_below w n)
part_of_live w zero p below = absurd (omega (arith, below))
part_of_live w (suc n) p below =
    let both = length-append (live_below w n) (content_of w n) in
    dite (ℕ_discrete p n)
    (λ here. let same : length (content_of w p) ≡ length (content_of w n) = ap (λ q. length (content_of w q)) here in omega (arith, both, same))
    (λ other. let h = part_of_live w n p (omega (arith, below, other)) in omega (arith, both, h))

-- which were inserted
home_is_few : (limits : Limits) (w : World) (t p : ℕ) → IsLawful limits w → MayAcquire limits w t p → length (unwrap_or (home_of w p) []) ≤ insertions w.lists
home_is_few limits w t p lawful may =
    let home = lawful.agreed.free p may.part may.free in
    let found : unwrap_or (home_of w p) [] ≡ home.0 = ap (λ o. unwrap_or o []) home.1 in
    let content : content_of w p ≡ home.0 = ap (λ o. unwrap_or o (content_in (hand_in w (holder_of w p)) p)) home.1 in
    let same = ap (λ (c : List Item). length c) (found ∙ sym content) in
    let part = part_of_live w (length w.homes) p (omega (arith, may.part, lawful.agreed.homes_are)) in
    let up = accounts_add_up limits w lawful in
    let left = ap length (left_is_live limits w lawful) ∙ length_sorted (live w) in
    omega (arith, same, part, up, left)

-- an entry that is no acquire
abbrev IsAcquired : Entry → Type 0
IsAcquired (Acquired p found) = Unit {0}
IsAcquired (Committed event) = ⊥
IsAcquired (Released p) = ⊥
IsAcquired (Missed p by) = ⊥
IsAcquired (Looked front) = ⊥
IsAcquired (Marked key) = ⊥
IsAcquired (Saw u key) = ⊥

-- what one of them found
abbrev found_by : Entry → List Item
found_by (Acquired p found) = found
found_by (Committed event) = []
found_by (Released p) = []
found_by (Missed p by) = []
found_by (Looked front) = []
found_by (Marked key) = []
found_by (Saw u key) = []

-- what stands in a list that gained an entry stood there, or is that entry
in_noted : (lists : List (List Entry)) (u t i : ℕ) (entry e : Entry) → u < length lists → get_elem? (get_or (set lists u (get_or lists u [] ++ entry ∷ [])) t []) i ≡ some e
    → (get_elem? (get_or lists t []) i ≡ some e) ⊎ (entry ≡ e)
in_noted lists u t i entry e inside there = dite (ℕ_discrete t u)
    (λ here. ⊎_elim
    (λ (old : get_elem? (get_or lists u []) i ≡ some e). inl (ap (λ n. get_elem? (get_or lists n []) i) here ∙ old))
    (λ (new : entry ≡ e). inr new)
    (at_snoc (get_or lists u []) entry e i (sym (ap (λ n. get_elem? (get_or (set lists u (get_or lists u [] ++ entry ∷ [])) n []) i) here ∙ ap (λ (z : List Entry). get_elem? z i) (get_or-set_same lists u (get_or lists u [] ++ entry ∷ []) [] inside)) ∙ there)))
    (λ other. inl (ap (λ (z : List Entry). get_elem? z i) (sym (get_or-set_other lists u t (get_or lists u [] ++ entry ∷ []) [] other)) ∙ there))

-- an empty list at each place
none_first : (n t : ℕ) → ◌≡◌ {A = List Entry} (get_or (replicate n []) t []) []
none_first zero t = refl
none_first (suc n) zero = refl
none_first (suc n) (suc t) = none_first n t

-- so what a thread found, in whichever part, is no more than what was inserted
pub found_few : (limits : Limits) (steps : List Step) (w : World) → Leads limits steps w → (t i p : ℕ) (found : List Item) → get_elem? (steps_of w t) i ≡ some (Acquired p found) → length found ≤ insertions w.lists
found_few limits [] w first t i p found there =
    absurd (some-ne-none (Acquired p found) (sym there ∙ (ap (λ (z : World). get_elem? (steps_of z t) i) first ∙ ap (λ (z : List Entry). get_elem? z i) (none_first limits.threads t))))
found_few limits (step ∷ before) w led t i p found there =
    after step led.legal led.after (λ k. found_few limits before led.before led.led t i p found k)
  where
    v : World
    v = led.before

    lawful : IsLawful limits v
    lawful = schedules_keep_lawful limits before v led.led

    -- by what the step notes
    by_entry : (u : ℕ) (entry : Entry) → u < limits.threads → w.lists ≡ noted v u entry → ((q : ℕ) → entry ≡ Acquired p found → length found ≤ insertions v.lists)
        → ((get_elem? (steps_of v t) i ≡ some (Acquired p found)) → length found ≤ insertions v.lists) → length found ≤ insertions w.lists
    by_entry u entry thread lists new old =
        let inside : u < length v.lists = omega (arith, thread, lawful.agreed.lists_are) in
        let grows = insertions_grow v.lists u entry in
        let same : insertions w.lists ≡ insertions (noted v u entry) = ap insertions lists in
        let few : length found ≤ insertions v.lists = ⊎_elim
        (λ (k : get_elem? (steps_of v t) i ≡ some (Acquired p found)). old k)
        (λ (k : entry ≡ Acquired p found). new 0 k)
        (in_noted v.lists u t i entry (Acquired p found) inside (ap (λ (z : List (List Entry)). get_elem? (get_or z t []) i) (sym lists) ∙ there)) in
        omega (arith, few, grows, same)

    after : (step : Step) → MayStep limits v step → w ≡ next v step → ((get_elem? (steps_of v t) i ≡ some (Acquired p found)) → length found ≤ insertions v.lists) → length found ≤ insertions w.lists
    after (Acquire u q) may is old = by_entry u (Acquired q (unwrap_or (home_of v q) [])) may.thread (ap (λ (z : World). z.lists) is)
        (λ n same. let few = home_is_few limits v u q lawful may in let alike = ap (λ (e : Entry). length (found_by e)) same in omega (arith, few, alike)) old
    after (Commit u event) may is old = by_entry u (Committed event) may.thread (ap (λ (z : World). z.lists) is) (λ n same. absurd (subst IsAcquired (sym same) tt)) old
    after (Release u q) may is old = by_entry u (Released q) may.thread (ap (λ (z : World). z.lists) is) (λ n same. absurd (subst IsAcquired (sym same) tt)) old
    after (Miss u q) may is old = by_entry u (Missed q (holder_of v q)) may.thread (ap (λ (z : World). z.lists) is) (λ n same. absurd (subst IsAcquired (sym same) tt)) old
    after (Look u) may is old = by_entry u (Looked v.front) may.thread (ap (λ (z : World). z.lists) is) (λ n same. absurd (subst IsAcquired (sym same) tt)) old
    after (Mark u key) may is old = by_entry u (Marked key) may.thread (ap (λ (z : World). z.lists) is) (λ n same. absurd (subst IsAcquired (sym same) tt)) old
    after (See u other) may is old = by_entry u (Saw other (work_of (steps_of v other))) may.thread (ap (λ (z : World). z.lists) is) (λ n same. absurd (subst IsAcquired (sym same) tt)) old
