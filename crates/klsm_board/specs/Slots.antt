-- The parts as the slots of a board have them.
use Rattle.std.specs.Prelude.{◌≡◌, ℕ, ◌<◌, ◌≤◌, List, [], take, vec_len, IfSome}
use mathlib.Core.Option.{some}
use lib.ListN.{get_elem?}
use Rattle.klsm_run.specs.declared.item.Item.{Item}
use Rattle.klsm_parts.specs.Parts.{PartState, items_in}
use Rattle.klsm_parts.specs.Flushing.{IsLargest}
use Rattle.klsm_board.specs.declared.slot.Slot.{Slot}
use Rattle.klsm_board.specs.declared.slot.Slot.TheVariants.{Own, Common, Vacant}

-- the items of the part in a slot, in ascending order
abbrev pub slot_content : Slot PartState PartState → List Item
slot_content (Own home) = items_in home.part
slot_content (Common shared) = items_in shared
slot_content Vacant = []

-- the items on their way to an own part: the first of the places beside it
abbrev pub slot_arriving : Slot PartState PartState → List Item
slot_arriving (Own home) = take home.count home.places.items
slot_arriving (Common shared) = []
slot_arriving Vacant = []

-- slot 0 has the shared part, and each other slot an own part with places for k items and, if any, a copy of its largest
-- block, all with the board's k
abbrev pub IsSlotOf : ℕ → ℕ → Slot PartState PartState → Type 0
IsSlotOf k p (Own home) =
    (0 < p) × (home.part.k ≡ k) × (k ≤ vec_len home.places) × (home.count ≤ k)
    × IfSome home.copy (λ run. IsLargest run home.part.blocks)
IsSlotOf k p (Common shared) = (p ≡ 0) × (shared.k ≡ k)
IsSlotOf k p Vacant = ⊥

-- each of these stands in its place on a board with this k, and is empty
abbrev pub AreEmptySlots : ℕ → List (Slot PartState PartState) → Type 0
AreEmptySlots k slots = (i : ℕ) (slot : Slot PartState PartState) → get_elem? slots i ≡ some slot → (slot_content slot ≡ []) × IsSlotOf k i slot
