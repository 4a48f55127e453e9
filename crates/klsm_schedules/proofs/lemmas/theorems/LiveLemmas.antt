-- What lives, by a hand with all parts; how many items at most; and what lives later.
use Rattle.std.proofs.Common.{◌≡◌, inl, inr, ℕ, zero, suc, ◌+◌, ◌*◌, ◌<◌, ◌≤◌, false, true, List, [], ◌∷◌, ◌++◌, length, Option, Some, None, unwrap_or, refl, sym, ap, ◌∙◌, subst, arith}
use Rattle.std.specs.List.{Contains, flat_map, slice_get}
use Rattle.std.specs.Ordering.{is_lt}
use Rattle.std.proofs.lemmas.Bool.{cases_eq, cases_lt}
use Rattle.std.proofs.lemmas.List.Concat.{flat_map-append, flat_map-cons, length-flat_map}
use Rattle.std.proofs.lemmas.List.Elements.{All-contains, All-from_get_or, All-from_recursion}
use Rattle.std.proofs.lemmas.List.Sums.{sum_by-le}
use Rattle.klsm_run.specs.declared.item.Item.{Item}
use Rattle.klsm_run.specs.ItemOrder.{is_smaller}
use Rattle.klsm_run.specs.Content.{sorted}
use Rattle.klsm_run.proofs.RankLemmas.{empty_if_no_least, none_below_least}
use Rattle.klsm_run.proofs.SortedLemmas.{length_sorted}
use Rattle.klsm_parts.specs.Events.{front_of, key_or_greatest, times}
use Rattle.klsm_parts.proofs.OwnOrderLemmas.{smaller_key}
use Rattle.klsm_schedules.specs.declared.step.Step.{Step}
use Rattle.klsm_schedules.specs.declared.step.Step.TheVariants.{Acquire, Commit, Release, Miss, Look, Mark, See}
use Rattle.klsm_schedules.specs.declared.step.Entry.{Entry}
use Rattle.klsm_schedules.specs.declared.step.Entry.TheVariants.{Acquired, Committed, Released, Missed, Looked, Marked, Saw}
use Rattle.klsm_schedules.specs.OwnSteps.{content_in, inserted, inserted_by, deleted_by, work_of}
use Rattle.klsm_schedules.specs.Worlds.{Limits, World, content_of, hand_in, holder_of, home_of, live, live_below, steps_of}
use Rattle.klsm_schedules.specs.LawfulWorlds.{IsLawful}
use Rattle.klsm_schedules.specs.Schedules.{MayStep, next}
use Rattle.klsm_schedules.specs.RelaxedQueue.{event_of, events_of}
use Rattle.klsm_schedules.specs.Laws.{IsWithinQuota}
use Rattle.klsm_schedules.specs.LiveLaws.{FullHandsHaveLive, HasAllParts, LaterItemsLived, LeadsFrom, LeastKeysHold, held_below, inserted_since}
use Rattle.klsm_schedules.proofs.lemmas.counts.EventCountLemmas.{contained_if_counted, times_append, times_contained}
use Rattle.klsm_schedules.proofs.lemmas.counts.GainLemmas.{live_gains}
use Rattle.klsm_schedules.proofs.lemmas.hands.PartContentLemmas.{content_held}
use Rattle.klsm_schedules.proofs.lemmas.lawful.LawfulLemmas.{lawful_kept}
use Rattle.klsm_schedules.proofs.lemmas.theorems.AccountLemmas.{accounts_add_up, left_is_live}

-- the first n parts, in a hand that has all
held_is_live : (limits : Limits) (w : World) (t : ℕ) → IsLawful limits w → t < limits.threads → HasAllParts limits.threads (hand_in w t)
    → (n : ℕ) → n ≤ limits.threads + 1 → held_below (hand_in w t) n ≡ live_below w n
held_is_live limits w t lawful inside all zero few = refl
held_is_live limits w t lawful inside all (suc n) few =
    let has = all n (omega (arith, few)) in
    let content : content_of w n ≡ has.content = content_held limits w t n has.content lawful.agreed inside has.holds in
    let held : content_in (hand_in w t) n ≡ has.content = ap (λ o. unwrap_or o []) has.holds in
    let rest = held_is_live limits w t lawful inside all n (omega (arith, few)) in
    λ i. rest i ++ (held ∙ sym content) i

pub full_hands_have_live : FullHandsHaveLive
full_hands_have_live limits w t lawful inside all =
    held_is_live limits w t lawful inside all (limits.threads + 1) (omega arith) ∙ ap (live_below w) (sym lawful.agreed.homes_are)

-- no more items live than all threads may insert
pub live_are_few : (limits : Limits) (quota : ℕ) (w : World) → IsLawful limits w → IsWithinQuota limits quota w → length (live w) ≤ limits.threads * quota
live_are_few limits quota w lawful within =
    let lists = lawful.agreed.lists_are in
    let up = accounts_add_up limits w lawful in
    let left = ap length (left_is_live limits w lawful) ∙ length_sorted (live w) in
    let most : ℕ = limits.threads * quota in
    let each = All-from_get_or (λ (own : List Entry). length (inserted own) ≤ quota) w.lists [] (λ t less. within t (omega (arith, less, lists))) in
    let all : length (flat_map inserted w.lists) ≤ length w.lists * quota =
    subst (λ n. n ≤ length w.lists * quota) (sym (length-flat_map inserted w.lists)) (sum_by-le (λ (own : List Entry). length (inserted own)) quota w.lists each) in
    let all' : length (flat_map inserted w.lists) ≤ most = subst (λ n. length (flat_map inserted w.lists) ≤ n * quota) lists all in
    let few : length (live w) ≤ most = omega (arith, all', up, left) in
    few

-- a step takes from the live items what it deletes, and brings what it inserts
pub step_gains : (limits : Limits) (w : World) (step : Step) (x : Item) → IsLawful limits w → MayStep limits w step
    → times x (live (next w step)) + times x (flat_map deleted_by (event_of step)) ≡ times x (live w) + times x (flat_map inserted_by (event_of step))
step_gains limits w (Acquire t p) x lawful may =
    live_gains limits w (next w (Acquire t p)) t (Acquired p (unwrap_or (home_of w p) [])) lawful (lawful_kept limits w (Acquire t p) lawful may) may.thread refl x
step_gains limits w (Commit t event) x lawful may =
    live_gains limits w (next w (Commit t event)) t (Committed event) lawful (lawful_kept limits w (Commit t event) lawful may) may.thread refl x
step_gains limits w (Release t p) x lawful may =
    live_gains limits w (next w (Release t p)) t (Released p) lawful (lawful_kept limits w (Release t p) lawful may) may.thread refl x
step_gains limits w (Miss t p) x lawful may =
    live_gains limits w (next w (Miss t p)) t (Missed p (holder_of w p)) lawful (lawful_kept limits w (Miss t p) lawful may) may.thread refl x
step_gains limits w (Look t) x lawful may =
    live_gains limits w (next w (Look t)) t (Looked w.front) lawful (lawful_kept limits w (Look t) lawful may) may.thread refl x
step_gains limits w (Mark t key) x lawful may =
    live_gains limits w (next w (Mark t key)) t (Marked key) lawful (lawful_kept limits w (Mark t key) lawful may) may.thread refl x
step_gains limits w (See t u) x lawful may =
    live_gains limits w (next w (See t u)) t (Saw u (work_of (steps_of w u))) lawful (lawful_kept limits w (See t u) lawful may) may.thread refl x

-- steps lead on to lawful worlds
later_is_lawful : (limits : Limits) (v : World) (steps : List Step) (w : World) → IsLawful limits v → LeadsFrom limits v steps w → IsLawful limits w
later_is_lawful limits v [] w lawful leads = subst (IsLawful limits) (sym leads) lawful
later_is_lawful limits v (step ∷ before) w lawful leads =
    subst (IsLawful limits) (sym leads.after) (lawful_kept limits leads.before step (later_is_lawful limits v before leads.before lawful leads.led) leads.legal)

-- in which no item lives more often than it lived and was inserted since
later_counts : (limits : Limits) (v : World) (steps : List Step) (w : World) (x : Item) → IsLawful limits v → LeadsFrom limits v steps w
    → times x (live w) ≤ times x (live v) + times x (inserted_since steps)
later_counts limits v [] w x lawful leads = let same : times x (live w) ≡ times x (live v) = ap (λ (z : World). times x (live z)) leads in omega (arith, same)
later_counts limits v (step ∷ before) w x lawful leads =
    let u = leads.before in
    let gains = step_gains limits u step x (later_is_lawful limits v before u lawful leads.led) leads.legal in
    let same : times x (live w) ≡ times x (live (next u step)) = ap (λ (z : World). times x (live z)) leads.after in
    let old = later_counts limits v before u x lawful leads.led in
    let more : times x (inserted_since (step ∷ before)) ≡ times x (flat_map inserted_by (event_of step)) + times x (inserted_since before) =
    ap (λ es. times x (flat_map inserted_by es)) (flat_map-cons event_of step before)
    ∙ (ap (times x) (flat_map-append inserted_by (event_of step) (events_of before)) ∙ times_append x (flat_map inserted_by (event_of step)) (inserted_since before)) in
    omega (arith, gains, same, old, more)

pub later_items_lived : LaterItemsLived
later_items_lived limits v w steps x lawful leads within =
    let some = times_contained x (live w) within in
    let few = later_counts limits v steps w x lawful leads in
    elim (cases_eq (times x (live v)) 0) [
      | inl none ↦ inr (contained_if_counted x (inserted_since steps) (omega (arith, some, few, none)))
      | inr lived ↦ inl (contained_if_counted x (live v) (omega (arith, lived)))
    ]

-- an item that is not smaller than another has no lesser key
pub no_lesser_key : (x y : Item) → is_smaller x y ≡ false → y.key ≤ x.key
no_lesser_key x y order = elim (cases_lt x.key y.key) [
  | inl less ↦
      let yes : is_smaller x y ≡ true = ap is_lt (smaller_key x y less) in
      let bad : false ≡ true = sym order ∙ yes in cc
  | inr less ↦ less
]

-- the front of a content is not above the key of an item of it
pub front_at_most : (c : List Item) (x : Item) → Contains c x → front_of c ≤ x.key
front_at_most c x within = by_least (slice_get (sorted c) 0) refl
  where
    by_least : (o : Option Item) → slice_get (sorted c) 0 ≡ o → front_of c ≤ x.key
    by_least None none =
        let empty : times x c ≡ 0 = ap (times x) (empty_if_no_least c none) in
        absurd (omega (arith, empty, times_contained x c within))
    by_least (Some y) some =
        let front : front_of c ≡ y.key = ap key_or_greatest some in
        let order : is_smaller x y ≡ false = All-contains (λ z. is_smaller z y ≡ false) c x (All-from_recursion (λ z. is_smaller z y ≡ false) c (none_below_least y c some)) within in
        omega (arith, front, no_lesser_key x y order)

pub least_keys_hold : LeastKeysHold
least_keys_hold limits v w steps x lawful leads within = elim (later_items_lived limits v w steps x lawful leads within) [
  | inl lived ↦ inl (front_at_most (live v) x lived)
  | inr since ↦ inr since
]
