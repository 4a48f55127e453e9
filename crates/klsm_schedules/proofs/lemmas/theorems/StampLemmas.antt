-- The item of an insertion that a thread may commit was never inserted, and so is not live.
use Rattle.std.proofs.Common.{◌≡◌, inl, inr, ℕ, zero, suc, ◌+◌, ◌<◌, ◌≤◌, List, [], ◌∷◌, ◌++◌, length, get_or, take, sym, refl, ap, ◌∙◌, subst, arith}
use Rattle.std.specs.List.{Contains, flat_map}
use Rattle.std.proofs.Math.Seq.{take-suc, take-length}
use Rattle.std.proofs.lemmas.List.{length-append}
use Rattle.std.proofs.lemmas.Option.{slice_get-get_or}
use Rattle.std.proofs.lemmas.List.Elements.{Contains-append_cases}
use Rattle.std.proofs.lemmas.List.Concat.{flat_map-cons}
use Rattle.klsm_run.specs.declared.item.Item.{Item}
use Rattle.klsm_schedules.specs.declared.step.Event.TheVariants.{Put, Flush, Take, Early, Nothing, Spy, Refill, Steal, Share}
use Rattle.klsm_schedules.specs.declared.step.Entry.{Entry}
use Rattle.klsm_schedules.specs.declared.step.Entry.TheVariants.{Acquired, Committed, Released, Missed, Looked, Marked, Saw}
use Rattle.klsm_schedules.specs.OwnSteps.{inserted_by, event_at, inserted}
use Rattle.klsm_schedules.specs.LegalSteps.{BearsStamp, MayFollow, IsLegal}
use Rattle.klsm_schedules.specs.Worlds.{Limits, World, steps_of, live}
use Rattle.klsm_schedules.specs.LawfulWorlds.{IsLawful}
use Rattle.klsm_schedules.proofs.lemmas.counts.EventCountLemmas.{times_contained, contained_if_counted}
use Rattle.klsm_schedules.proofs.lemmas.counts.ItemGrowthLemmas.{items_grow}

-- an item bears the stamp of one of a thread's first n insertions
pub record BearsEarlier (t n : ℕ) (x : Item) : Type 0 where
  pub owner : x.stamp.owner ≡ t
  pub number : x.stamp.number < n

pub contains_none : (x : Item) → Contains [] x → ⊥
contains_none x within = omega (arith, within.1)

pub contains_one : (x y : Item) → Contains (y ∷ []) x → y ≡ x
contains_one x y (zero, less, same) = same
contains_one x y (suc i, less, same) = absurd (omega (arith, less))

-- what an entry inserts bears the next stamp
pub stamp_at : (k t : ℕ) (before : List Entry) (entry : Entry) (x : Item) → MayFollow k t before entry → Contains (flat_map inserted_by (event_at entry)) x
    → BearsStamp t (length (inserted before)) x × (length (flat_map inserted_by (event_at entry)) ≡ 1)
stamp_at k t before (Acquired p found) x may within = absurd (contains_none x within)
stamp_at k t before (Committed (Put y)) x may within = (subst (BearsStamp t (length (inserted before))) (contains_one x y within) may.stamp, refl)
stamp_at k t before (Committed (Flush y moved)) x may within = (subst (BearsStamp t (length (inserted before))) (contains_one x y within) may.stamp, refl)
stamp_at k t before (Committed (Take y)) x may within = absurd (contains_none x within)
stamp_at k t before (Committed (Early y front)) x may within = absurd (contains_none x within)
stamp_at k t before (Committed Nothing) x may within = absurd (contains_none x within)
stamp_at k t before (Committed (Spy victim moved)) x may within = absurd (contains_none x within)
stamp_at k t before (Committed (Steal victim moved)) x may within = absurd (contains_none x within)
stamp_at k t before (Committed (Refill moved)) x may within = absurd (contains_none x within)
stamp_at k t before (Committed (Share moved)) x may within = absurd (contains_none x within)
stamp_at k t before (Released p) x may within = absurd (contains_none x within)
stamp_at k t before (Missed p by) x may within = absurd (contains_none x within)
stamp_at k t before (Looked front) x may within = absurd (contains_none x within)
stamp_at k t before (Marked key) x may within = absurd (contains_none x within)
stamp_at k t before (Saw u key) x may within = absurd (contains_none x within)

-- what the first entries of a list insert, with one entry more
pub inserted_longer : (own : List Entry) (n : ℕ) → n < length own
    → inserted (take (suc n) own) ≡ inserted (take n own) ++ flat_map inserted_by (event_at (get_or own n (Released 0)))
inserted_longer own n inside = ap inserted (take-suc own n (Released 0) inside) ∙ items_grow inserted_by (take n own) (get_or own n (Released 0))

pub stamps_below : (k t : ℕ) (own : List Entry) → IsLegal k t own → (n : ℕ) → n ≤ length own → (x : Item) → Contains (inserted (take n own)) x
    → BearsEarlier t (length (inserted (take n own))) x
stamps_below k t own legal zero some x within = absurd (contains_none x within)
stamps_below k t own legal (suc n) some x within =
    let entry : Entry = get_or own n (Released 0) in
    let inside : n < length own = omega (arith, some) in
    let longer = inserted_longer own n inside in
    let count : length (inserted (take (suc n) own)) ≡ length (inserted (take n own)) + length (flat_map inserted_by (event_at entry)) =
    ap length longer ∙ length-append (inserted (take n own)) (flat_map inserted_by (event_at entry)) in
    elim (Contains-append_cases (inserted (take n own)) (flat_map inserted_by (event_at entry)) x (subst (λ c. Contains c x) longer within)) [
      | inl earlier ↦
          let old = stamps_below k t own legal n (omega (arith, some)) x earlier in
          record { owner = old.owner; number = omega (arith, count, old.number) }
      | inr now ↦
          let one = stamp_at k t (take n own) entry x (legal n entry (slice_get-get_or own n (Released 0) inside)) now in
          record { owner = one.0.owner; number = omega (arith, count, one.0.number, one.1) }
    ]

-- each item of a legal list's insertions bears one of their stamps
pub inserted_bears : (k t : ℕ) (own : List Entry) → IsLegal k t own → (x : Item) → Contains (inserted own) x → BearsEarlier t (length (inserted own)) x
inserted_bears k t own legal x within =
    let all : take (length own) own ≡ own = take-length own in
    subst (λ o. BearsEarlier t (length (inserted o)) x) all
    (stamps_below k t own legal (length own) (omega arith) x (subst (λ o. Contains (inserted o) x) (sym all) within))

-- an item that all lists inserted is one that some list inserted
pub inserted_somewhere : (lists : List (List Entry)) (x : Item) → Contains (flat_map inserted lists) x
    → (t : ℕ) × (t < length lists) × Contains (inserted (get_or lists t [])) x
inserted_somewhere [] x within = absurd (contains_none x within)
inserted_somewhere (own ∷ lists) x within =
    elim (Contains-append_cases (inserted own) (flat_map inserted lists) x (subst (λ c. Contains c x) (flat_map-cons inserted own lists) within)) [
      | inl here ↦ (0, omega arith, here)
      | inr there ↦ let later = inserted_somewhere lists x there in (suc later.0, omega (arith, later.1), later.2)
    ]

-- in a lawful world an item that bears the stamp of a thread's next insertion was never inserted
pub next_is_new : (limits : Limits) (w : World) (t : ℕ) (x : Item) → IsLawful limits w → BearsStamp t (length (inserted (steps_of w t))) x
    → Contains (flat_map inserted w.lists) x → ⊥
next_is_new limits w t x lawful bears within =
    let there = inserted_somewhere w.lists x within in
    let inside : there.0 < limits.threads = omega (arith, there.1, lawful.agreed.lists_are) in
    let earlier = inserted_bears limits.k there.0 (steps_of w there.0) (lawful.legal there.0 inside) x there.2 in
    let owner : there.0 ≡ t = sym earlier.owner ∙ bears.owner in
    let count : length (inserted (steps_of w there.0)) ≡ length (inserted (steps_of w t)) = ap (λ u. length (inserted (steps_of w u))) owner in
    omega (arith, earlier.number, bears.number, count)

-- and is not live
pub next_is_not_live : (limits : Limits) (w : World) (t : ℕ) (x : Item) → IsLawful limits w → BearsStamp t (length (inserted (steps_of w t))) x
    → Contains (live w) x → ⊥
next_is_not_live limits w t x lawful bears within =
    next_is_new limits w t x lawful bears
    (contained_if_counted x (flat_map inserted w.lists) (omega (arith, lawful.each_once x, times_contained x (live w) within)))
