use Rattle.std.proofs.Common.{length, sym, ap, ◌∙◌}
use Rattle.klsm_run.proofs.SortedLemmas.{length_sorted}
use Rattle.klsm_parts.specs.Parts.{items_in}
use Rattle.klsm_board.specs.Slots.{slot_content}
use Rattle.klsm_board.proofs.lemmas.slots.KindLemmas.{AnyHome}
use Rattle.klsm_board.proofs.slot.BoardSlotPartSlot.len.Goals as goal

pub returns-in-Own : goal.returns-in-Own
returns-in-Own g c =
    c.len.ensures.len ∙ (sym (length_sorted _) ∙ (ap (λ (home : AnyHome). length (items_in home.part)) c.get.ensures ∙ sym (ap (λ slot. length (slot_content slot)) c.in-Own.is)))

pub returns-in-Common : goal.returns-in-Common
returns-in-Common g c =
    c.len-in-Common.ensures.len ∙ (sym (length_sorted _) ∙ (ap (λ part. length (items_in part)) c.get-in-Common.ensures ∙ sym (ap (λ slot. length (slot_content slot)) c.in-Common.is)))

pub len-requires : goal.len-requires
len-requires g c = search

pub len-requires-in-Common : goal.len-requires-in-Common
len-requires-in-Common g c = search

pub returns-in-Vacant : goal.returns-in-Vacant
returns-in-Vacant g c = sym (ap (λ slot. length (slot_content slot)) c.in-Vacant.is)
