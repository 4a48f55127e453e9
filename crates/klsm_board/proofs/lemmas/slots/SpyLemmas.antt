-- A spy, by its answer: what the call of the parts ensures, said of the slots.
use Rattle.std.proofs.Common.{◌≡◌, ℕ, zero, suc, ◌==◌, ◌↔◌, not, ne_eqb, MatchBool, List, [], length, refl, sym, ap, ◌∙◌, arith, Option, Some, None, IfSome}
use Rattle.std.specs.Option.{option_to_list}
use Rattle.klsm_run.specs.declared.item.Item.{Item}
use Rattle.klsm_parts.specs.Parts.{PartState, items_in}
use Rattle.klsm_parts.specs.Events.{MaySpy, own_after_spy, victim_after_spy}
use Rattle.klsm_board.specs.declared.slot.Slot.TheVariants.{Own}
use Rattle.klsm_board.specs.Slots.{slot_content}
use Rattle.klsm_board.proofs.lemmas.slots.KindLemmas.{AnySlot, AnyHome, own_content}

-- a part with no block has no item
none_moved : (own : PartState) (k n : ℕ) → own ≡ record { k = k; blocks = [] } → suc n ≡ length (items_in own) → ⊥
none_moved own k n is count = omega (arith, count, ap (λ (part : PartState). length (items_in part)) is)

module _ (self victim : AnySlot) (own : AnyHome) (own_after : PartState) (other : AnyHome) (other_after : PartState) (own_is : self ≡ Own own) (victim_is : victim ≡ Own other) where
  -- what the call says of the contents
  abbrev IsTold : List Item → Type 0
  IsTold moved = MaySpy (items_in own.part) (items_in other.part) moved × (items_in own_after ≡ own_after_spy moved) × (items_in other_after ≡ victim_after_spy (items_in other.part) moved)

  -- what the slots are said to have become
  abbrev IsSpied : Type 0
  IsSpied = (moved : List Item) × MaySpy (slot_content self) (slot_content victim) moved × (items_in own_after ≡ own_after_spy moved)
      × (items_in other_after ≡ victim_after_spy (slot_content victim) moved)

  -- what a spy tells of the slots
  pub has_spied : (moved : Option (List Item)) (n : ℕ) → own_after ≡ record { k = own.part.k; blocks = option_to_list moved } → n ≡ length (items_in own_after) → (n ≡ 0) ↔ (items_in other.part ≡ [])
      → ((n ≡ 0) → (own_after ≡ own.part) × (other_after ≡ other.part)) → IfSome moved IsTold
      → MatchBool (not (n == 0)) IsSpied ((slot_content victim ≡ []) × (items_in own_after ≡ slot_content self) × (items_in other_after ≡ slot_content victim))
  has_spied moved zero is count none unchanged outcome =
      let victim_same : slot_content victim ≡ items_in other.part = own_content victim other victim_is in
      (victim_same ∙ none.0 refl, ap items_in (unchanged refl).0 ∙ sym (own_content self own own_is), ap items_in (unchanged refl).1 ∙ sym victim_same)
  has_spied None (suc n) is count none unchanged outcome = absurd (none_moved own_after own.part.k n is count)
  has_spied (Some moved) (suc n) is count none unchanged outcome =
      let own_same : slot_content self ≡ items_in own.part = own_content self own own_is in
      let victim_same : slot_content victim ≡ items_in other.part = own_content victim other victim_is in
      let is_spied : IsSpied = rw (own_same, victim_same) (moved, outcome.0, outcome.1, outcome.2) in
      rw (ne_eqb (suc n) 0 (λ e. absurd (omega (arith, e)))) is_spied
