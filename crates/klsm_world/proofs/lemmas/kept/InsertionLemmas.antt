-- How many items a thread's own steps insert.
use Rattle.std.proofs.lemmas.Grind.{flat_map-append}
use Rattle.std.specs.List.{flat_map}
use Rattle.std.proofs.Common.{◌≡◌, ◌⊎◌, ◌+◌, ◌≤◌, List, [], ◌∷◌, ◌++◌, length, refl, ap, ◌∙◌, inl, inr, arith, length-append}
use Rattle.klsm_run.specs.declared.item.Item.{Item}
use Rattle.klsm_world.specs.declared.own_steps.KeptStep.{KeptStep}
use Rattle.klsm_world.specs.declared.own_steps.KeptStep.TheVariants as kept
use Rattle.klsm_world.specs.Kept.{entry_of}
use Rattle.klsm_schedules.specs.declared.step.Entry.{Entry}
use Rattle.klsm_schedules.specs.declared.step.Entry.TheVariants.{Acquired, Committed, Released, Missed, Looked, Marked, Saw}
use Rattle.klsm_schedules.specs.declared.step.Event.TheVariants.{Put, Flush, Take, Early, Nothing, Spy, Refill, Steal, Share}
use Rattle.klsm_schedules.specs.OwnSteps.{inserted_by, event_at, inserted}
use Rattle.klsm_schedules.proofs.lemmas.counts.ItemGrowthLemmas.{items_grow}

at_most_one : (entry : Entry) → length (flat_map inserted_by (event_at entry)) ≤ 1
at_most_one (Acquired p found) = omega arith
at_most_one (Committed (Put x)) = omega arith
at_most_one (Committed (Flush x moved)) = omega arith
at_most_one (Committed (Take x)) = omega arith
at_most_one (Committed (Early x front)) = omega arith
at_most_one (Committed Nothing) = omega arith
at_most_one (Committed (Spy victim moved)) = omega arith
at_most_one (Committed (Steal victim moved)) = omega arith
at_most_one (Committed (Refill moved)) = omega arith
at_most_one (Committed (Share moved)) = omega arith
at_most_one (Released p) = omega arith
at_most_one (Missed p by) = omega arith
at_most_one (Looked front) = omega arith
at_most_one (Marked key) = omega arith
at_most_one (Saw u key) = omega arith

-- at most one item a step
pub few_inserted : (own : List Entry) → length (inserted own) ≤ length own
few_inserted [] = omega arith
few_inserted (entry ∷ own) = omega (arith, at_most_one entry, few_inserted own, ap length (flat_map-append inserted_by (event_at entry) (flat_map event_at own)), length-append (flat_map inserted_by (event_at entry)) (inserted own))

-- a step that adds an item to a part inserts one
pub one_inserted : (step : KeptStep) (items : List Item) → ((x : Item) × (step ≡ kept.Put x)) ⊎ ((x : Item) × (step ≡ kept.Flush x))
    → length (flat_map inserted_by (event_at (entry_of step items))) ≡ 1
one_inserted step items (inl put) = ap (λ s. length (flat_map inserted_by (event_at (entry_of s items)))) put.1
one_inserted step items (inr flush) = ap (λ s. length (flat_map inserted_by (event_at (entry_of s items)))) flush.1

-- and any other inserts none
pub none_inserted : (step : KeptStep) (items : List Item) → ((x : Item) → step ≡ kept.Put x → ⊥) → ((x : Item) → step ≡ kept.Flush x → ⊥)
    → length (flat_map inserted_by (event_at (entry_of step items))) ≡ 0
none_inserted (kept.Acquired p) items put flush = refl
none_inserted (kept.Put x) items put flush = absurd (put x refl)
none_inserted (kept.Flush x) items put flush = absurd (flush x refl)
none_inserted (kept.Take x) items put flush = refl
none_inserted (kept.Early x front) items put flush = refl
none_inserted kept.Nothing items put flush = refl
none_inserted (kept.Spy victim) items put flush = refl
none_inserted (kept.Steal victim) items put flush = refl
none_inserted kept.Refill items put flush = refl
none_inserted kept.Share items put flush = refl
none_inserted (kept.Released p) items put flush = refl
none_inserted (kept.Missed p by) items put flush = refl
none_inserted (kept.Looked front) items put flush = refl
none_inserted (kept.Marked key) items put flush = refl
none_inserted (kept.Saw u key) items put flush = refl

-- what a list inserts with one entry more
pub inserted_with : (own after : List Entry) (entry : Entry) → after ≡ own ++ entry ∷ [] → length (inserted after) ≡ length (inserted own) + length (flat_map inserted_by (event_at entry))
inserted_with own after entry is = ap (λ all. length (inserted all)) is ∙ (ap length (items_grow inserted_by own entry) ∙ length-append (inserted own) (flat_map inserted_by (event_at entry)))
