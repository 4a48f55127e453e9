-- How often an item is in the lists' items where one list gains an entry, and among the live items where parts change.
use Rattle.std.proofs.Common.{◌≡◌, ◌≢◌, ℕ, ◌+◌, ◌<◌, List, [], ◌∷◌, ◌++◌, length, get_or, set, refl, ap, arith, zero, suc, inl, inr, ◌∙◌}
use Rattle.std.specs.List.{flat_map}
use Rattle.std.proofs.lemmas.Bool.{cases_eq}
use Rattle.klsm_run.specs.declared.item.Item.{Item}
use Rattle.klsm_parts.specs.Events.{times}
use Rattle.klsm_schedules.specs.declared.step.Event.{Event}
use Rattle.klsm_schedules.specs.declared.step.Entry.{Entry}
use Rattle.klsm_schedules.specs.OwnSteps.{inserted_by, deleted_by, event_at, inserted, deleted}
use Rattle.klsm_schedules.specs.Worlds.{World, content_of, live_below}
use Rattle.klsm_schedules.proofs.lemmas.counts.EventCountLemmas.{times_append}
use Rattle.klsm_schedules.proofs.lemmas.counts.ItemGrowthLemmas.{items_grow}

-- one list of several gains an entry
module _ (x : Item) (items_by : Event → List Item) where
  abbrev items_of : List Entry → List Item
  items_of own = flat_map items_by (flat_map event_at own)

  items_noted : (lists : List (List Entry)) (t : ℕ) (entry : Entry) → t < length lists
      → times x (flat_map items_of (set lists t (get_or lists t [] ++ entry ∷ []))) ≡ times x (flat_map items_of lists) + times x (flat_map items_by (event_at entry))
  items_noted [] t entry within = absurd (omega (arith, within))
  items_noted (own ∷ lists) zero entry within =
      let others = flat_map items_of lists in
      let more = ap (times x) (items_grow items_by own entry) ∙ times_append x (items_of own) (flat_map items_by (event_at entry)) in
      omega (arith, times_append x (items_of (own ++ entry ∷ [])) others, times_append x (items_of own) others, more)
  items_noted (own ∷ lists) (suc t) entry within =
      omega (
        arith,
        times_append x (items_of own) (flat_map items_of (set lists t (get_or lists t [] ++ entry ∷ []))),
        times_append x (items_of own) (flat_map items_of lists),
        items_noted lists t entry (omega (arith, within)),
      )

-- what is inserted, where one list gains an entry
pub inserted_noted : (x : Item) (lists : List (List Entry)) (t : ℕ) (entry : Entry) → t < length lists
    → times x (flat_map inserted (set lists t (get_or lists t [] ++ entry ∷ []))) ≡ times x (flat_map inserted lists) + times x (flat_map inserted_by (event_at entry))
inserted_noted x lists t entry within = items_noted x inserted_by lists t entry within

-- and what is deleted
pub deleted_noted : (x : Item) (lists : List (List Entry)) (t : ℕ) (entry : Entry) → t < length lists
    → times x (flat_map deleted (set lists t (get_or lists t [] ++ entry ∷ []))) ≡ times x (flat_map deleted lists) + times x (flat_map deleted_by (event_at entry))
deleted_noted x lists t entry within = items_noted x deleted_by lists t entry within

module _ (w v : World) (x : Item) where
  -- the parts up to one count as its content and those below it
  live_more : (u : World) (n : ℕ) → times x (live_below u (suc n)) ≡ times x (live_below u n) + times x (content_of u n)
  live_more u n = times_append x (live_below u n) (content_of u n)

  -- no part changes
  pub live_same : (n : ℕ) → ((p : ℕ) → p < n → content_of v p ≡ content_of w p) → times x (live_below v n) ≡ times x (live_below w n)
  live_same zero each = refl
  live_same (suc n) each =
      omega (arith, live_more v n, live_more w n, live_same n (λ p less. each p (omega (arith, less))), ap (times x) (each n (omega arith)))

  -- one part changes
  pub live_changed : (n q : ℕ) → q < n → ((p : ℕ) → p < n → p ≢ q → content_of v p ≡ content_of w p)
      → times x (live_below v n) + times x (content_of w q) ≡ times x (live_below w n) + times x (content_of v q)
  live_changed zero q within each = absurd (omega (arith, within))
  live_changed (suc n) q within each = elim (cases_eq n q) [
    | inl last ↦
        let before : times x (content_of w n) ≡ times x (content_of w q) = ap (λ p. times x (content_of w p)) last in
        let later : times x (content_of v n) ≡ times x (content_of v q) = ap (λ p. times x (content_of v p)) last in
        omega (arith, live_more v n, live_more w n, before, later, live_same n (λ p less. each p (omega (arith, less)) (λ same. omega (arith, less, same, last))))
    | inr other ↦
        let rest = live_changed n q (omega (arith, within, other)) (λ p less apart. each p (omega (arith, less)) apart) in
        omega (arith, live_more v n, live_more w n, rest, ap (times x) (each n (omega arith) other))
  ]

  -- two parts change
  pub live_changed_two : (n q r : ℕ) → q ≢ r → q < n → r < n → ((p : ℕ) → p < n → p ≢ q → p ≢ r → content_of v p ≡ content_of w p)
      → (times x (live_below v n) + times x (content_of w q)) + times x (content_of w r) ≡ (times x (live_below w n) + times x (content_of v q)) + times x (content_of v r)
  live_changed_two zero q r two within_q within_r each = absurd (omega (arith, within_q))
  live_changed_two (suc n) q r two within_q within_r each = elim (cases_eq n q) [
    | inl last ↦
        let before : times x (content_of w n) ≡ times x (content_of w q) = ap (λ p. times x (content_of w p)) last in
        let later : times x (content_of v n) ≡ times x (content_of v q) = ap (λ p. times x (content_of v p)) last in
        let rest = live_changed n r (omega (arith, within_r, last, two)) (λ p less apart. each p (omega (arith, less)) (λ same. omega (arith, less, same, last)) apart) in
        omega (arith, live_more v n, live_more w n, before, later, rest)
    | inr not_q ↦ elim (cases_eq n r) [
      | inl last ↦
          let before : times x (content_of w n) ≡ times x (content_of w r) = ap (λ p. times x (content_of w p)) last in
          let later : times x (content_of v n) ≡ times x (content_of v r) = ap (λ p. times x (content_of v p)) last in
          let rest = live_changed n q (omega (arith, within_q, not_q)) (λ p less apart. each p (omega (arith, less)) apart (λ same. omega (arith, less, same, last))) in
          omega (arith, live_more v n, live_more w n, before, later, rest)
      | inr not_r ↦
          let rest = live_changed_two n q r two (omega (arith, within_q, not_q)) (omega (arith, within_r, not_r)) (λ p less apart_q apart_r. each p (omega (arith, less)) apart_q apart_r) in
          omega (arith, live_more v n, live_more w n, rest, ap (times x) (each n (omega arith) not_q not_r))
    ]
  ]
