use Rattle.std.proofs.Common.{◌∙◌, ap}
use Rattle.klsm_parts.specs.Parts.{least_in}
use Rattle.klsm_board.proofs.lemmas.slots.KindLemmas.{AnyHome, own_content, shared_content}
use Rattle.klsm_board.proofs.lemmas.slots.TakeLemmas.{least_told}
use Rattle.klsm_board.proofs.slot.BoardSlotPartSlot.least.Goals as goal

pub returns-in-Own-clause-least : goal.returns-in-Own-clause-least
returns-in-Own-clause-least g c =
    least_told c.args.self.now c.in-Own.own.part c.least.result (own_content c.args.self.now c.in-Own.own c.in-Own.is) (c.least.ensures ∙ ap (λ (home : AnyHome). least_in home.part) c.get.ensures)

pub returns-in-Common-clause-least : goal.returns-in-Common-clause-least
returns-in-Common-clause-least g c =
    least_told c.args.self.now c.in-Common.shared c.least-in-Common.result (shared_content c.args.self.now c.in-Common.shared c.in-Common.is) (c.least-in-Common.ensures ∙ ap least_in c.get-in-Common.ensures)
