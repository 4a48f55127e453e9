use Rattle.std.proofs.Common.{◌∙◌, ap, sym, slice_get}
use Rattle.klsm_parts.specs.Parts.{least_in}
use Rattle.klsm_board.specs.Slots.{slot_content}
use Rattle.klsm_board.proofs.lemmas.slots.KindLemmas.{AnyHome, own_content}
use Rattle.klsm_board.proofs.lemmas.slots.TakeLemmas.{least_or_none, least_told}
use Rattle.klsm_board.proofs.slot.BoardSlotPartSlot.find_least.Goals as goal

pub returns-clause-least : goal.returns-clause-least
returns-clause-least g c =
    let self = c.args.self.now in let own = c.in-Own.own in
    let there = own_content self own c.in-Own.is in let is = c.find_least.ensures.least ∙ ap (λ (home : AnyHome). least_in home.part) c.get_mut-home.ensures.value in
    least_or_none (slot_content self) c.find_least.result (is ∙ ap (λ z. slice_get z 0) (sym there)) (least_told self own.part c.find_least.result there is)
