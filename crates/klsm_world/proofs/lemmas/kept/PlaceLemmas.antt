-- Where a running world keeps the parts and the lists that a legal step touches.
use Rattle.std.proofs.Common.{◌≡◌, ℕ, ◌+◌, ◌<◌, ◌≤◌, List, [], length, get_or, sym, ap, ◌∙◌, subst, arith}
use Rattle.std.proofs.lemmas.List.{get_or_read}
use Rattle.klsm_run.specs.declared.item.Item.{Item}
use Rattle.klsm_run.specs.Content.{sorted}
use Rattle.klsm_schedules.specs.declared.step.Entry.{Entry}
use Rattle.klsm_world.specs.Kept.{IsKept, world_of}
use Rattle.klsm_schedules.specs.OwnSteps.{Holds}
use Rattle.klsm_world.specs.WorldView.{WorldView}
use Rattle.klsm_schedules.specs.Worlds.{Limits, hand_in}

module _ {limits : Limits} {words : List ℕ} {contents : List (List Item)} {lists : List (List Entry)} (kept : IsKept limits words contents lists) where
  pub shared_place : {len : ℕ} → len ≡ length contents → 0 < len
  shared_place counted = omega (arith, kept.contents_are, counted)

  pub ascending_place : {p : ℕ} {place seen : List Item} → p < length contents → place ≡ get_or contents p place → seen ≡ place → sorted seen ≡ seen
  ascending_place {p = p} {place = place} within is same =
      let up : p ≤ limits.threads = omega (arith, within, kept.contents_are) in
      let at : place ≡ get_or contents p [] = get_or_read contents p place within is [] in
      ap sorted (same ∙ at) ∙ (kept.ascending p up ∙ sym (same ∙ at))

  module _ {before : WorldView} (view : record { limits = limits; world = world_of words contents lists } ≡ before) {t : ℕ} (less : t < before.limits.threads) where
    less_kept : t < limits.threads
    less_kept = subst (λ (r : WorldView). t < r.limits.threads) (sym view) less

    pub own_place : {p len : ℕ} → p ≡ t + 1 → len ≡ length contents → p < len
    own_place is counted = omega (arith, is, less_kept, kept.contents_are, counted)

    pub part_place : {p len : ℕ} → p ≤ before.limits.threads → len ≡ length contents → p < len
    part_place {p = p} up counted =
        let there : p ≤ limits.threads = subst (λ (r : WorldView). p ≤ r.limits.threads) (sym view) up in
        omega (arith, there, kept.contents_are, counted)

    pub list_place : {len : ℕ} → len ≡ length lists → t < len
    list_place counted = omega (arith, less_kept, kept.lawful.agreed.lists_are, counted)

    pub held_place : {p q len : ℕ} {c : List Item} → q ≡ p → Holds (hand_in before.world t) p c → len ≡ length contents → q < len
    held_place {p = p} {c = c} is has counted =
        let here : Holds (hand_in (world_of words contents lists) t) p c = subst (λ (r : WorldView). Holds (hand_in r.world t) p c) (sym view) has in
        omega (arith, is, (kept.lawful.agreed.named t p c less_kept here).0, kept.contents_are, counted)
