-- The key that a thread works at after one more of its own steps, as a running world keeps them.
use Rattle.std.proofs.Common.{◌≡◌, ℕ, List, [], ◌∷◌, ◌++◌, refl, sym, ap, ◌∙◌}
use Rattle.std.proofs.lemmas.List.Sums.{fold-append}
use Rattle.klsm_run.specs.declared.item.Item.{Item}
use Rattle.klsm_world.specs.declared.own_steps.KeptStep.{KeptStep}
use Rattle.klsm_world.specs.declared.own_steps.KeptStep.TheVariants as kept
use Rattle.klsm_world.specs.Kept.{entry_of}
use Rattle.klsm_schedules.specs.declared.step.Entry.{Entry}
use Rattle.klsm_schedules.specs.OwnSteps.{no_key, work_after, work_of}

-- a step that deletes nothing, is answered something and marks nothing leaves it as it was
pub same_work : (work : ℕ) (step : KeptStep) (items : List Item) → ((x : Item) → step ≡ kept.Take x → ⊥) → ((x : Item) (front : ℕ) → step ≡ kept.Early x front → ⊥)
    → (step ≡ kept.Nothing → ⊥) → ((key : ℕ) → step ≡ kept.Marked key → ⊥) → work ≡ work_after work (entry_of step items)
same_work work (kept.Acquired p) items take early nothing mark = refl
same_work work (kept.Put x) items take early nothing mark = refl
same_work work (kept.Flush x) items take early nothing mark = refl
same_work work (kept.Take x) items take early nothing mark = absurd (take x refl)
same_work work (kept.Early x front) items take early nothing mark = absurd (early x front refl)
same_work work kept.Nothing items take early nothing mark = absurd (nothing refl)
same_work work (kept.Spy victim) items take early nothing mark = refl
same_work work (kept.Steal victim) items take early nothing mark = refl
same_work work kept.Refill items take early nothing mark = refl
same_work work kept.Share items take early nothing mark = refl
same_work work (kept.Released p) items take early nothing mark = refl
same_work work (kept.Missed p by) items take early nothing mark = refl
same_work work (kept.Looked front) items take early nothing mark = refl
same_work work (kept.Marked key) items take early nothing mark = absurd (mark key refl)
same_work work (kept.Saw u key) items take early nothing mark = refl

-- what a list with one entry more works at
pub work_with : (own after : List Entry) (entry : Entry) (work now : ℕ) → after ≡ own ++ entry ∷ [] → work ≡ work_of own → now ≡ work_after work entry → now ≡ work_of after
work_with own after entry work now is before step =
    step ∙ (ap (λ n. work_after n entry) before ∙ (sym (fold-append work_after no_key own (entry ∷ [])) ∙ sym (ap work_of is)))
