-- A steal, by its answer: what the call of the parts ensures, said of the slots.
use Rattle.std.proofs.Common.{◌≡◌, ℕ, zero, suc, ◌<◌, ◌==◌, not, ne_eqb, MatchBool, List, [], take, refl, sym, ap, arith}
use Rattle.klsm_run.specs.declared.item.Item.{Item}
use Rattle.klsm_parts.specs.Parts.{PartState, items_in}
use Rattle.klsm_parts.specs.Stealing.{MaySteal, own_after_steal, victim_after_steal, steal_count, steal_of}
use Rattle.klsm_schedules.specs.OwnSteps.{own_part}
use Rattle.klsm_board.specs.declared.slot.Slot.TheVariants.{Own}
use Rattle.klsm_board.specs.Slots.{slot_content, IsSlotOf}
use Rattle.klsm_board.proofs.lemmas.slots.KindLemmas.{AnySlot, AnyHome, own_content, own_k}

module _ (most : ℕ) (self victim : AnySlot) (own : AnyHome) (own_after : PartState) (other : AnyHome) (other_after : PartState) (own_is : self ≡ Own own) (victim_is : victim ≡ Own other) where
  -- what the items that move leave of two contents
  abbrev Leave : ℕ → List Item → List Item → List Item → Type 0
  Leave k c d moved = MaySteal k c d moved × (items_in own_after ≡ own_after_steal c moved) × (items_in other_after ≡ victim_after_steal d moved)

  -- what a steal tells of the slots
  pub has_stolen : (n : ℕ) → n ≡ steal_count most own.part.k (items_in own.part) (items_in other.part) → ((n ≡ 0) → (own_after ≡ own.part) × (other_after ≡ other.part))
      → (0 < n → Leave own.part.k (items_in own.part) (items_in other.part) (steal_of most own.part.k (items_in own.part) (items_in other.part)))
      → (k t : ℕ) → IsSlotOf k (own_part t) self
      → MatchBool (not (n == 0)) (Leave k (slot_content self) (slot_content victim) (steal_of most k (slot_content self) (slot_content victim)))
      ((steal_of most k (slot_content self) (slot_content victim) ≡ []) × (items_in own_after ≡ slot_content self) × (items_in other_after ≡ slot_content victim))
  has_stolen zero count unchanged outcome k t kind =
      let own_same : slot_content self ≡ items_in own.part = own_content self own own_is in
      let victim_same : slot_content victim ≡ items_in other.part = own_content victim other victim_is in
      let k_is : own.part.k ≡ k = own_k k (own_part t) self own own_is kind in
      rw (own_same, victim_same, ← k_is) (ap (λ n. take n (items_in other.part)) (sym count), ap items_in (unchanged refl).0, ap items_in (unchanged refl).1)
  has_stolen (suc n) count unchanged outcome k t kind =
      let own_same : slot_content self ≡ items_in own.part = own_content self own own_is in
      let victim_same : slot_content victim ≡ items_in other.part = own_content victim other victim_is in
      let k_is : own.part.k ≡ k = own_k k (own_part t) self own own_is kind in
      let did : Leave k (slot_content self) (slot_content victim) (steal_of most k (slot_content self) (slot_content victim)) = rw (own_same, victim_same, ← k_is) (outcome (omega arith)) in
      rw (ne_eqb (suc n) 0 (λ e. absurd (omega (arith, e)))) did
